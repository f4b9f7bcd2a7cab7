-- A refusal that is handed on.
use Rattle.std.proofs.Common.{◌≡◌, Result, sym, subst, ◌∙◌}
use Rattle.std.specs.Result.{IsErrAnd}
use Rattle.std.proofs.lemmas.Result.{err_from_is_err_and}
use Rattle.run_words.specs.Parts.{Judged}
use Rattle.run_words.specs.declared.fault.WordsFault.{WordsFault}
use Rattle.run_words.specs.declared.fault.WordsFault.TheVariants as faults

pub passed : {X Y : Type 0} (P : X → Type 0) (Q : Y → Type 0) (r : Result Y WordsFault) (fault : WordsFault) → IsErrAnd r (λ e. e ≡ fault)
    → (fault ≡ faults.Words → (x : X) → ¬ P x) → (((x : X) → ¬ P x) → (y : Y) → ¬ Q y) → Judged Q r
passed {X} {Y} P Q r fault is none more =
    let p = err_from_is_err_and r is in
    subst (λ (t : Result Y WordsFault). Judged Q t) (sym p.1) (λ blamed. more (none (sym p.2 ∙ blamed)))
