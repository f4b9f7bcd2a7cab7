-- Jobs in a list, one after another.
use Rattle.std.proofs.Common.{◌≡◌, ℕ, ◌+◌, ◌<◌, List, [], ◌∷◌, ◌++◌, length, take, get_or, map, Bool, true, false, ltb, refl, ap, sym, ◌∙◌, append_assoc, arith, suc}
use Rattle.std.specs.Prelude.{◌||◌}
use Rattle.std.proofs.lemmas.List.{append-nil, take_more, length-take}
use Rattle.std.proofs.lemmas.Bool.Decides.{nat_tests}
use Rattle.std.proofs.Math.Bool.{or-true}
use Rattle.serde_json.specs.Written.{compact_text, items_text, comma_if}
use Rattle.serde_json.specs.View.{items_of}
use Rattle.desk_text.specs.declared.job.Job.{Job}
use Rattle.desk_text.specs.Values.{line_value}

abbrev pub joined : Bool → List Job → List ℕ
joined later [] = []
joined later (job ∷ jobs) = comma_if later ++ (compact_text (line_value job) ++ joined true jobs)

pub items_joined : (later : Bool) (jobs : List Job) → items_text later (items_of (map line_value jobs)) ≡ joined later jobs ++ (93 ∷ [])
items_joined later [] = refl
items_joined later (job ∷ jobs) =
    ap (λ (l : List ℕ). comma_if later ++ (compact_text (line_value job) ++ l)) (items_joined true jobs)
    ∙ ap (λ (l : List ℕ). comma_if later ++ l) (sym (append_assoc (compact_text (line_value job)) (joined true jobs) (93 ∷ [])))
    ∙ sym (append_assoc (comma_if later) (compact_text (line_value job) ++ joined true jobs) (93 ∷ []))

or_false : (b : Bool) → (b || false) ≡ b
or_false true = refl
or_false false = refl

some_before : (n : ℕ) → ltb 0 (suc n) ≡ true
some_before n = grind (arith, nat_tests)

joined_push : (later : Bool) (jobs : List Job) (job : Job) → joined later (jobs ++ job ∷ []) ≡ joined later jobs ++ (comma_if (later || ltb 0 (length jobs)) ++ compact_text (line_value job))
joined_push later [] job =
    ap (λ (l : List ℕ). comma_if later ++ l) (append-nil (compact_text (line_value job)))
    ∙ ap (λ (b : Bool). comma_if b ++ compact_text (line_value job)) (sym (or_false later))
joined_push later (first ∷ jobs) job =
    let text = compact_text (line_value first) in
    let last : List ℕ = comma_if true ++ compact_text (line_value job) in
    ap (λ (l : List ℕ). comma_if later ++ (text ++ l)) (joined_push true jobs job)
    ∙ ap (λ (l : List ℕ). comma_if later ++ l) (sym (append_assoc text (joined true jobs) last))
    ∙ sym (append_assoc (comma_if later) (text ++ joined true jobs) last)
    ∙ ap (λ (b : Bool). (comma_if later ++ (text ++ joined true jobs)) ++ (comma_if b ++ compact_text (line_value job))) (sym (or-true later))
    ∙ ap (λ (b : Bool). (comma_if later ++ (text ++ joined true jobs)) ++ (comma_if (later || b) ++ compact_text (line_value job))) (sym (some_before (length jobs)))

pub joined_more : (jobs : List Job) (i : ℕ) (d : Job) → i < length jobs
    → joined false (take (i + 1) jobs) ≡ joined false (take i jobs) ++ (comma_if (ltb 0 i) ++ compact_text (line_value (get_or jobs i d)))
joined_more jobs i d less =
    ap (joined false) (take_more jobs i d less) ∙ joined_push false (take i jobs) (get_or jobs i d)
    ∙ ap (λ (n : ℕ). joined false (take i jobs) ++ (comma_if (ltb 0 n) ++ compact_text (line_value (get_or jobs i d)))) (omega (arith, length-take i jobs))
