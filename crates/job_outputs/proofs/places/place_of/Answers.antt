use Rattle.std.proofs.Common.{◌≡◌, ℕ, ◌<◌, Some, sym, ap, ◌∙◌, arith}
use Rattle.std.specs.Prelude.{slice_get}
use Rattle.std.proofs.lemmas.Bool.{false≢true}
use Rattle.std.proofs.lemmas.Option.{same_Some, slice_get-get_or}
use Rattle.job_outputs.proofs.Naming.{found, missing}
use Rattle.job_outputs.proofs.places.place_of.Goals as goal

pub returns-then-is_same-clause-found : goal.returns-then-is_same-clause-found
returns-then-is_same-clause-found g c =
    found _ c.args.outs.now c.args.name.now c.loop-place.place c.index-outs-place.result c.loop-place-test.true
    (slice_get-get_or c.args.outs.now c.loop-place.place c.index-outs-place.result c.loop-place-test.true ∙ ap Some (sym c.index-outs-place.is))
    (c.is_same.ensures.0 c.if-is_same.true) c.loop-place.invariant

pub loop-place-preserved : goal.loop-place-preserved
loop-place-preserved g c other earlier less at same =
    let not_less : ¬ (other < c.loop-place.place) = λ below. c.loop-place.invariant other earlier below at same in
    let here : other ≡ c.loop-place.place = omega (arith, not_less, less) in
    let one : c.index-outs-place.result ≡ earlier =
    same_Some c.index-outs-place.result earlier
    (ap Some c.index-outs-place.is ∙ sym (slice_get-get_or c.args.outs.now c.loop-place.place c.index-outs-place.result c.loop-place-test.true)
    ∙ ap (λ (k : ℕ). slice_get c.args.outs.now k) (sym here) ∙ at) in
    false≢true (sym c.if-is_same.false ∙ c.is_same.ensures.1 ((λ i. (one i).name) ∙ same))

pub returns-clause-none : goal.returns-clause-none
returns-clause-none g c k d less same =
    missing _ c.args.outs.now c.args.name.now (λ other earlier below at. c.loop-place.invariant other earlier (omega (arith, below, c.loop-place-test.false)) at) k d less same
