use Rattle.std.proofs.Common.{ℕ, List, sym, subst}
use Rattle.ckd_image.specs.Device.{slot_of}
use Rattle.vtoc_check.specs.Slots.{AreSlotsOf}
use Rattle.unit_load.specs.Hand.{with_hand}
use Rattle.unit_load.proofs.load.load_unit.Goals as goal

pub returns-in-Ok-clause-slots : goal.returns-in-Ok-clause-slots
returns-in-Ok-clause-slots g c = λ told.
    subst
    (λ (slots : List ℕ). AreSlotsOf c.in-Ok.volume.vtoc (slot_of c.in-Ok.volume.device) slots (with_hand c.args.hand ((g.P.Pool.disk c.args.journal.now.pool).state.contents c.args.unit)))
    (sym c.from_vec.ensures) (c.in-Ok.ensures.slots told)
