-- The slots of a change that was written load to the next volume, where it takes tracks that it may and the volume is that of its layout.
use Rattle.std.proofs.Common.{◌≡◌, ℕ, ◌+◌, List, ◌++◌, length, Bool, refl, arith}
use Rattle.ckd_image.specs.declared.head.Head.{Head}
use Rattle.dscb_rec.specs.declared.field.Entry5.{Entry5}
use Rattle.vol_label.specs.declared.label.Label.{Label}
use Rattle.volume_model.specs.declared.place.Placed.{Placed}
use Rattle.volume_model.specs.declared.place.Vtoc.{Vtoc}
use Rattle.volume_model.specs.Sound.{Slots}
use Rattle.vtoc_core.specs.declared.volume.Volume.{Volume}
use Rattle.vtoc_layout.specs.Layout.{SetRecords}
use Rattle.vtoc_load.specs.LoadedVtoc.{free_records_of, IsLoadedVtoc}
use Rattle.vtoc_load.proofs.Counting.{counted}
use Rattle.layout_edit.specs.Change.{LayoutChange, edits_of, vtoc_after, layout_after}
use Rattle.vtoc_plan.specs.Plan.{Putting}
use Rattle.vtoc_write.specs.declared.blocks.Block.{Block}
use Rattle.vtoc_write.specs.Written.{AreRewritten}
use Rattle.vtoc_rewrite.specs.Rewrite.{AreSlotsAfter}
use Rattle.render_laws.specs.Rendered.{WasLoaded, WasPlanned, MayTakeTracks, IsVolumeAfter}
use Rattle.render_laws.proofs.Before.{has_layout}
use Rattle.render_laws.proofs.LayoutAfter.{sized_after, layout_stands}
use Rattle.render_laws.proofs.VolumeAfter.{sound_then, volume_then, rendered as loaded}
use Rattle.vtoc_render.specs.Next.{used_by}
use Rattle.vtoc_render.proofs.NextCounts.{one_four}

abbrev with_free : Volume → ℕ → Volume
with_free v n = record {
  serial = v.serial;
  device = v.device;
  usable = v.usable;
  vtoc = v.vtoc;
  rows = v.rows;
  free = v.free;
  repair = v.repair;
  indexed = v.indexed;
  dscbs = v.dscbs;
  free_dscbs = n;
  fives = v.fives;
}

module _ {head : Head} {label : Label} {old : Slots} {before : Bool} {slots : List ℕ} {volume next : Volume} {vtoc : Vtoc} {four : Placed}
    {front gone back : List SetRecords} {putting : List Putting} {parts : List (List Entry5)} {change : LayoutChange} (was : WasLoaded head label old before slots volume vtoc four)
    (plan : WasPlanned vtoc four front gone back putting parts change) (takes : MayTakeTracks vtoc volume.usable (front ++ back) putting)
    (is : IsVolumeAfter vtoc volume (layout_after front change back) parts next) where
  pub loads_counted : (new : Slots) (after : Bool) (blocks : List Block) → AreRewritten (edits_of change) head.device vtoc.run slots blocks → AreSlotsAfter vtoc.run blocks old new
      → next.free_dscbs + used_by next ≡ next.dscbs → IsLoadedVtoc head label new after next
  loads_counted new after blocks rewritten slots_after count =
      let n = length (free_records_of (vtoc_after vtoc (edits_of change))) in
      let same : IsVolumeAfter vtoc volume (layout_after front change back) parts (with_free next n) = record {
        serial_is = is.serial_is;
        device_is = is.device_is;
        usable_is = is.usable_is;
        vtoc_is = is.vtoc_is;
        rows_are = is.rows_are;
        in_order = is.in_order;
        names_are = is.names_are;
        free_are = is.free_are;
        limit_is = is.limit_is;
        heads_are = is.heads_are;
        stated = is.stated;
        repair_is = is.repair_is;
        indexed_is = is.indexed_is;
        dscbs_are = is.dscbs_are;
        fives_are = is.fives_are;
      } in
      let sized = sized_after was.sized (has_layout was) plan in
      let fours = one_four (vtoc_after vtoc (edits_of change)) (layout_after front change back) sized (layout_stands was.sized (has_layout was) plan) in
      let v = volume_then was plan takes same refl in
      let all = counted (vtoc_after vtoc (edits_of change)) next.rows sized.short (sound_then was plan takes is) v.rows_are in
      let free_is : next.free_dscbs ≡ n = omega (arith, count, all, fours, v.fives_are, v.dscbs_are) in
      loaded head label old new before after slots blocks volume next vtoc four front gone back putting parts change was plan takes rewritten slots_after is free_is
