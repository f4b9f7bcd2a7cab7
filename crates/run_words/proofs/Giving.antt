-- The options that are found are those that the words spell.
use Rattle.std.proofs.Common.{◌≡◌, ◌≢◌, ℕ, false, List, [], ◌∷◌, ◌++◌, All, sym, ap, subst, ◌∙◌, inl, inr, codes, append-nil}
use Rattle.std.specs.Str.{bytes_eq}
use Rattle.std.proofs.lemmas.List.Elements.{All-nil, All-cons}
use Rattle.std.proofs.lemmas.Slice.Eq.{bytes_eq-Decides}
use Rattle.clap.specs.Words.{Row, fault_of, matches_of}
use Rattle.run_words.specs.Words.{spelling, values_of, IsValue, Spells}
use Rattle.run_words.specs.Grammar.{bare, command, options_in, values_in}
use Rattle.run_words.specs.Parts.{HaveSameValues, Gives}
use Rattle.run_words.specs.declared.name.Name.{Name}
use Rattle.run_words.specs.declared.given.Given.{Given}
use Rattle.run_words.proofs.Ends.{not_false}
use Rattle.run_words.proofs.Hyphens.{spelling_is, not_end, no_flag}
use Rattle.run_words.proofs.Walks.{AreValues}
use Rattle.run_words.proofs.Taken.{found_in, same_values}
use Rattle.run_words.proofs.Same.{same_are_values, values_apart}

other_word : (word : List ℕ) → bytes_eq word (codes "--") ≡ false → word ≢ codes "--"
other_word word not is = not_false (sym not ∙ (bytes_eq-Decides word (codes "--")).1 is)

other_name : (name : Name) (rest : List ℕ) → spelling name ++ rest ≢ codes "--"
other_name name rest is = other_word (45 ∷ 45 ∷ (bare name ++ rest)) (not_end name rest) (sym (ap (λ (t : List ℕ). t ++ rest) (spelling_is name)) ∙ is)

-- no word of options ends them
pub no_end : (options : List Given) (words : List (List ℕ)) → Spells words options → All (λ word. word ≢ codes "--") words
no_end [] words none = subst (All (λ word. word ≢ codes "--")) (sym none) (All-nil (λ word. word ≢ codes "--"))
no_end (given ∷ more) words (left, (value, inl e), rest) =
    let P : List ℕ → Type 0 = λ word. word ≢ codes "--" in
    subst (All P) (sym e)
    (All-cons P (spelling given.name) (given.value ∷ left) (λ is. other_name given.name [] (append-nil (spelling given.name) ∙ is))
    (All-cons P given.value left (other_word given.value (no_flag given.value value).end) (no_end more left rest)))
no_end (given ∷ more) words (left, (value, inr e), rest) =
    let P : List ℕ → Type 0 = λ word. word ≢ codes "--" in
    subst (All P) (sym e) (All-cons P (spelling given.name ++ 61 ∷ given.value) left (other_name given.name (61 ∷ given.value)) (no_end more left rest))

spelled_values : (options : List Given) (words : List (List ℕ)) → Spells words options → AreValues options
spelled_values [] words none = All-nil (λ (given : Given). IsValue given.value)
spelled_values (given ∷ more) words (left, one, rest) = All-cons (λ (given : Given). IsValue given.value) given more one.0 (spelled_values more left rest)

module _ (words : List (List ℕ)) (rows : List Row) (options : List Given) (found : rows ≡ matches_of command words) (are : options ≡ options_in rows) where
  same_found : (name : Name) → values_in (matches_of command words) name ≡ values_of name options
  same_found name = ap (λ (r : List Row). values_in r name) (sym found) ∙ sym (values_apart rows name) ∙ ap (values_of name) (sym are)

  pub values_found : (others : List Given) → Gives words others → AreValues options
  values_found others (spelled, spells, same) =
      same_are_values spelled options (λ name. sym (same_values words spelled spells name) ∙ same_found name) (spelled_values spelled words spells)

  pub gives : All (λ word. word ≢ codes "--") words → fault_of command words ≡ [] → AreValues options → Gives words options
  gives ends none values =
      let all = found_in words ends none in
      let same : HaveSameValues all.options options = λ name. sym (all.same name) ∙ same_found name in
      (all.options, all.spells (same_are_values options all.options (λ name. sym (same name)) values), same)
