-- A word of one qualifier, read up to some place.
use Rattle.std.proofs.Common.{◌≡◌, ℕ, suc, ◌+◌, ◌-◌, ◌<◌, ◌≤◌, ◌⊎◌, inl, inr, List, [], ◌∷◌, ◌++◌, length, take, set, get_or, replicate, sym, ap, subst, ◌∙◌, append_assoc, arith, length-append}
use Rattle.std.specs.Char.{to_ascii_uppercase}
use Rattle.std.proofs.lemmas.List.{map-append, append-nil, length-map, length-take-le, take_more, take_all, take_at, set_at}
use Rattle.dsn_filter.specs.Text.{capitals, IsBegun, IsFirstWrong}
use Rattle.dsn_filter.specs.Qualifier.{IsQualifier}
use Rattle.dsn_filter.specs.OneQualifier.{IsQualifierText}
use Rattle.dsn_filter.proofs.Joins.{one_more}
use Rattle.dsn_filter.proofs.Forms.{name_form, qualifier_short}
use Rattle.dsn_filter.proofs.Scanned.{first_wrong, ends_early}

-- so many bytes are read, and their capitals are kept
pub record IsWordRead (text : List ℕ) (place : ℕ) (capital : List ℕ) : Type 0 where
  pub begun : (capitals (take place text) ≡ []) ⊎ IsQualifier (capitals (take place text))
  pub few : place ≤ 8
  pub kept : capital ≡ capitals (take place text) ++ replicate (8 - place) 0

begun_word : (text : List ℕ) → (capitals text ≡ []) ⊎ IsQualifier (capitals text) → IsBegun IsQualifierText text
begun_word [] h = (65 ∷ [], name_form.letter)
begun_word (b ∷ text) (inl e) = let gone : length (capitals (b ∷ text)) ≡ 0 = ap length e in absurd (omega arith)
begun_word (b ∷ text) (inr h) = ([], subst (λ (t : List ℕ). IsQualifier (capitals t)) (sym (append-nil (b ∷ text))) h)

not_begun_word : (text : List ℕ) (b : ℕ) → ¬ IsQualifier (capitals text ++ (to_ascii_uppercase b ∷ [])) → ¬ IsBegun IsQualifierText (text ++ (b ∷ []))
not_begun_word text b stops (more, right) =
    let split : capitals ((text ++ (b ∷ [])) ++ more) ≡ capitals text ++ (to_ascii_uppercase b ∷ capitals more) =
    map-append to_ascii_uppercase (text ++ (b ∷ [])) more ∙ ap (λ (t : List ℕ). t ++ capitals more) (map-append to_ascii_uppercase text (b ∷ []))
    ∙ append_assoc (capitals text) (to_ascii_uppercase b ∷ []) (capitals more) in
    stops (one_more IsQualifier name_form (capitals text) (to_ascii_uppercase b) (capitals more) (subst IsQualifier split right))

module _ (text : List ℕ) (place : ℕ) (capital : List ℕ) (reading : IsWordRead text place capital) (lt : place < length text) where
  front_len : length (capitals (take place text)) ≡ place
  front_len = length-map (take place text) to_ascii_uppercase ∙ length-take-le place text (omega arith)

  pub word_part : take place capital ≡ capitals (take place text)
  word_part = ap (λ (t : List ℕ). take place t) reading.kept ∙ take_at (capitals (take place text)) (replicate (8 - place) 0) place front_len

  pub word_more : (b : ℕ) → b ≡ to_ascii_uppercase (get_or text place 0) → IsQualifier (take place capital ++ (b ∷ [])) → IsWordRead text (place + 1) (set capital place b)
  word_more b is right =
      let t : List ℕ = capitals (take place text) in
      let few : length (take place capital ++ (b ∷ [])) ≤ 8 = qualifier_short (take place capital ++ (b ∷ [])) right in
      let len : length (take place capital) ≡ place = ap length word_part ∙ front_len in
      let fits : place < 8 = omega (arith, length-append (take place capital) (b ∷ [])) in
      let more : capitals (take (place + 1) text) ≡ t ++ (b ∷ []) =
      ap capitals (take_more text place 0 lt) ∙ map-append to_ascii_uppercase (take place text) (get_or text place 0 ∷ []) ∙ ap (λ (c : ℕ). t ++ (c ∷ [])) (sym is) in
      let zeros : List ℕ = replicate (8 - (place + 1)) 0 in
      let count : 8 - place ≡ suc (8 - (place + 1)) = omega arith in
      let was : capital ≡ t ++ (0 ∷ zeros) = reading.kept ∙ ap (λ (n : ℕ). t ++ replicate n 0) count in
      record {
        begun = inr (subst IsQualifier (ap (λ (q : List ℕ). q ++ (b ∷ [])) word_part ∙ sym more) right);
        few = omega arith;
        kept = ap (λ (u : List ℕ). set u place b) was ∙ set_at t 0 zeros b place front_len ∙ sym (append_assoc t (b ∷ []) zeros) ∙ ap (λ (u : List ℕ). u ++ zeros) (sym more);
      }

  pub word_stops : (b : ℕ) → b ≡ to_ascii_uppercase (get_or text place 0) → ¬ IsQualifier (take place capital ++ (b ∷ [])) → IsFirstWrong IsQualifierText text place
  word_stops b is stops =
      first_wrong IsQualifierText text place lt (begun_word (take place text) reading.begun)
      (subst (λ (u : List ℕ). ¬ IsBegun IsQualifierText u) (sym (take_more text place 0 lt))
      (not_begun_word (take place text) (get_or text place 0)
      (λ h. stops (subst IsQualifier (ap (λ (q : List ℕ). q ++ (to_ascii_uppercase (get_or text place 0) ∷ [])) (sym word_part) ∙ ap (λ (c : ℕ). take place capital ++ (c ∷ [])) (sym is)) h))))

pub no_word : (text : List ℕ) → length text ≡ 0 → IsFirstWrong IsQualifierText text 0
no_word [] e = ends_early IsQualifierText [] (65 ∷ [], name_form.letter) (λ h. h)
no_word (b ∷ text) e = absurd (omega arith)

module _ (text capital : List ℕ) (reading : IsWordRead text (length text) capital) where
  pub word_ends : 0 < length text → IsQualifierText text
  word_ends some = elim reading.begun [
    | inl e ↦ (let gone : length (capitals (take (length text) text)) ≡ 0 = ap length e in absurd (omega (arith, length-map (take (length text) text) to_ascii_uppercase, length-take-le (length text) text (omega arith))))
    | inr h ↦ subst (λ (t : List ℕ). IsQualifier (capitals t)) (take_all (length text) text (omega arith)) h
  ]
