use Rattle.std.proofs.Common.{◌≡◌, ℕ, List, [], map, ap, subst, refl, ◌∙◌}
use Rattle.clap.specs.Words.{fault_of, found_of, matches_of, rows_of}
use Rattle.run_words.specs.Grammar.{command}
use Rattle.run_words.specs.Parts.{Gives}
use Rattle.run_words.proofs.Ends.{not_false}
use Rattle.run_words.proofs.Passed.{passed}
use Rattle.run_words.proofs.Walks.{AreValues}
use Rattle.run_words.proofs.Taken.{faultless}
use Rattle.run_words.proofs.Giving.{no_end, values_found, gives}
use Rattle.run_words.proofs.given.options_of.Goals as goal

pub returns-then-not-lacks_end : goal.returns-then-not-lacks_end
returns-then-not-lacks_end c = λ blamed options given. not_false (c.if-not-lacks_end.ensures.1 (no_end given.0 c.args.words.now given.1))

pub returns-in_err-matches : goal.returns-in_err-matches
returns-in_err-matches c =
    let same : map (λ text. text.now) c.as_slice.result.now ≡ c.args.words.now = ap (map (λ text. text.now)) c.as_slice.ensures.value ∙ c.in_ok-texts.ensures in
    let up = c.from_residual-in_err-matches in
    passed {X = Unit {0}} (λ x. fault_of command c.args.words.now ≡ []) (Gives c.args.words.now) up.result c.in_err-matches.field-0.0 up.ensures.1
    (λ blamed x. subst (λ (words : List (List ℕ)). ¬ (fault_of command words ≡ [])) same (c.in_err-matches.ensures.refused blamed))
    (λ none options given. none tt (faultless c.args.words.now given.0 given.1))

pub returns-then-not-are_values : goal.returns-then-not-are_values
returns-then-not-are_values c = λ blamed others given.
    let same : map (λ text. text.now) c.as_slice.result.now ≡ c.args.words.now = ap (map (λ text. text.now)) c.as_slice.ensures.value ∙ c.in_ok-texts.ensures in
    not_false (c.if-not-are_values.ensures.1 (values_found c.args.words.now (rows_of (found_of c.in_ok-matches.matches)) c.as_slice-2.result.now
    (c.in_ok-matches.ensures.found ∙ ap (matches_of command) same) (c.as_slice-2.ensures ∙ c.in_ok-options.ensures) others given))

pub returns : goal.returns
returns c =
    let same : map (λ text. text.now) c.as_slice.result.now ≡ c.args.words.now = ap (map (λ text. text.now)) c.as_slice.ensures.value ∙ c.in_ok-texts.ensures in
    gives c.args.words.now (rows_of (found_of c.in_ok-matches.matches)) c.in_ok-options.options
    (c.in_ok-matches.ensures.found ∙ ap (matches_of command) same) c.in_ok-options.ensures
    (c.if-not-lacks_end.ensures.0 refl)
    (subst (λ (words : List (List ℕ)). fault_of command words ≡ []) same c.in_ok-matches.ensures.taken)
    (subst AreValues c.as_slice-2.ensures (c.if-not-are_values.ensures.0 refl))
