use Rattle.std.proofs.Common.{ℕ, ⊎_elim, refl, sym, ap, ◌∙◌, arith}
use Rattle.std.proofs.lemmas.Bool.{cases_eq, false≢true}
use Rattle.std.proofs.lemmas.List.{get_or_default}
use Rattle.std.proofs.Common.{get_or}
use Rattle.redo_core.proofs.Surveying.{stands_behind}
use Rattle.redo_core.proofs.survey.are_apart.Goals as goal

pub loop-place-preserved : goal.loop-place-preserved
loop-place-preserved c = λ i j d less above within same. ⊎_elim
    (λ here. false≢true (c.if-is_among.ensures.1
    (stands_behind c.args.targets.now c.loop-place.place j _ _ d (omega (arith, above, here)) within refl
    (get_or_default c.args.targets.now c.loop-place.place _ d c.loop-place-test.true ∙ ap (λ (k : ℕ). get_or c.args.targets.now k d) (sym here) ∙ same))))
    (λ other. c.loop-place.invariant i j d (omega (arith, less, other)) above within same)
    (cases_eq i c.loop-place.place)
