use Rattle.std.proofs.Common.{◌≤◌, IfSome, Option, sym, subst}
use Rattle.volume_model.specs.declared.place.Place.{Place}
use Rattle.vtoc_making.specs.Places.{is_one_after}
use Rattle.vtoc_render.proofs.Lasts.{last_passed}
use Rattle.vtoc_render.proofs.four.four_for.Goals as goal

pub pointer_of-highest-requires-clause-small : goal.pointer_of-highest-requires-clause-small
pointer_of-highest-requires-clause-small c =
    let P : Place → Type 0 = λ place. place.track ≤ 65535 in
    subst (λ (place : Option Place). IfSome place P) (sym c.highest_after.ensures) (last_passed P (is_one_after c.args.gone c.args.put) c.args.records.now c.requires.small)
