use Rattle.std.proofs.Common.{◌≡◌, get_or, sym, subst, ◌∙◌}
use Rattle.plan_core.proofs.Options.{some_weaker, none_weaker}
use Rattle.ckd_image.specs.Device.{heads_of}
use Rattle.free_map.specs.Free.{IsFree}
use Rattle.volume_model.specs.Pinned.{IsNameOf}
use Rattle.vtoc_core.specs.declared.volume.Row.{Row}
use Rattle.plan_core.specs.Extents.{extents_at}
use Rattle.plan_core.specs.Consolidate.{IsRowOf, IsPlaceFor}
use Rattle.plan_core.proofs.consolidate.next_consolidate.Goals as goal

found_row : (c : goal.After-place_for) → IsRowOf c.args.volume.now c.args.name.now c.index-as_slice-place.result
found_row c =
    let row = c.index-as_slice-place.result in
    let here : get_or c.args.volume.now.rows c.in-Some.place row ≡ row = (λ i. get_or (sym c.as_slice.ensures i) c.in-Some.place row) ∙ sym c.index-as_slice-place.is in
    ((c.in-Some.place, c.in-Some.ensures.found.0, here), subst (λ (r : Row). IsNameOf c.args.name.now r.name) here (c.in-Some.ensures.found.1 row))

pub returns-clause-found : goal.returns-clause-found
returns-clause-found c =
    let heads = heads_of c.args.volume.now.device in
    let free = IsFree c.args.volume.now.free in
    some_weaker c.place_for.result (λ start. IsPlaceFor free heads (extents_at heads c.index-as_slice-place.result.extents) start)
    (λ start. (row : Row) × IsRowOf c.args.volume.now c.args.name.now row × IsPlaceFor free heads (extents_at heads row.extents) start)
    (λ start is. (c.index-as_slice-place.result, found_row c, is)) c.place_for.ensures.found

pub returns-clause-none : goal.returns-clause-none
returns-clause-none c =
    let heads = heads_of c.args.volume.now.device in
    let free = IsFree c.args.volume.now.free in
    none_weaker c.place_for.result (λ is. (c.index-as_slice-place.result, found_row c, is)) c.place_for.ensures.none
