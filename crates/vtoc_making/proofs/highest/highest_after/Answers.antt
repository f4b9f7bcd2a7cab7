use Rattle.std.proofs.Common.{Option, Some, get_or, ap, sym, ◌∙◌, cond}
use Rattle.volume_model.specs.declared.place.Place.{Place}
use Rattle.vtoc_check.specs.Places.{blank}
use Rattle.vtoc_making.specs.Places.{is_one_after}
use Rattle.vtoc_making.proofs.Lasts.{last_more}
use Rattle.vtoc_making.proofs.highest.highest_after.Goals as goal

pub loop-placed-preserved : goal.loop-placed-preserved
loop-placed-preserved c =
    c.later-highest.ensures
    ∙ ap (λ (before : Option Place). cond (is_one_after c.args.gone c.args.put (get_or c.args.records.now c.loop-placed.placed-index blank)) (Some (get_or c.args.records.now c.loop-placed.placed-index blank).place) before) c.loop-placed.invariant
    ∙ sym (last_more (is_one_after c.args.gone c.args.put) c.args.records.now c.loop-placed.placed-index blank c.loop-placed-test.true)
