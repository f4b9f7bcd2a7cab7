-- A rendered change keeps the fields of the format 4.
use Rattle.std.proofs.Common.{◌≡◌, ◌≢◌, ℕ, ◌≤◌, List, length, Bool, refl, sym, ap, subst, ◌∙◌}
use Rattle.ckd_image.specs.declared.device.Device.{Device}
use Rattle.ckd_image.specs.declared.head.Head.{Head}
use Rattle.free_map.specs.declared.run.Run.{Run}
use Rattle.vol_label.specs.declared.label.Label.{Label}
use Rattle.volume_model.specs.declared.place.Placed.{Placed}
use Rattle.volume_model.specs.declared.place.Vtoc.{Vtoc}
use Rattle.volume_model.specs.Reads.{fields_of_4}
use Rattle.volume_model.specs.Sound.{Slots}
use Rattle.vtoc_check.specs.Sized.{IsVtocWith}
use Rattle.vtoc_core.specs.declared.volume.Volume.{Volume}
use Rattle.vtoc_rewrite.specs.Rewrite.{AreSlotsAfter}
use Rattle.vtoc_write.specs.Written.{AreRewritten}
use Rattle.layout_edit.specs.Change.{edits_of, vtoc_after}
use Rattle.vtoc_render.specs.render_laws.Rendered.{WasLoaded}
use Rattle.vtoc_render.proofs.render_laws.Before.{has_layout, four_long, stands_after}
use Rattle.vtoc_render.proofs.render_laws.Indicators.{stated_long, stated_valid}
use Rattle.vtoc_render.proofs.render_laws.LayoutAfter.{four_found}
use Rattle.volume_change.specs.declared.change.Change.{Change}
use Rattle.volume_change.specs.declared.change.Change.TheVariants.{Repair, Put, Swap, Remove, Mark}
use Rattle.vtoc_render.specs.declared.change.Rendered.{Rendered}
use Rattle.vtoc_render.specs.Change.{WritesRecords, IsChangeWritten}
use Rattle.unit_change.proofs.FormatFour.{home_of, KeepsFormat4}
use Rattle.volume_model.proofs.OneVtoc.{one_format_4}

writes_records : (volume : Volume) (slots : List ℕ) (change : Change) (rendered : Rendered) (vtoc : Vtoc) (four : Placed) → change ≢ Mark → IsChangeWritten volume slots change rendered vtoc four
    → WritesRecords volume slots change rendered vtoc four
writes_records volume slots Repair rendered vtoc four no_mark is = is
writes_records volume slots (Put row) rendered vtoc four no_mark is = is
writes_records volume slots (Swap name row) rendered vtoc four no_mark is = is
writes_records volume slots (Remove name) rendered vtoc four no_mark is = is
writes_records volume slots Mark rendered vtoc four no_mark is = absurd (no_mark refl)

-- Where its records are written, the format 4 that the label names has its old fields but for counts and indicators.
pub keeps_four : (head : Head) (label : Label) (old new : Slots) (before after : Bool) (slots : List ℕ) (volume : Volume) (change : Change) (rendered : Rendered) (vtoc : Vtoc) (four : Placed)
    → WasLoaded head label old before slots volume vtoc four → change ≢ Mark → IsChangeWritten volume slots change rendered vtoc four → AreSlotsAfter volume.vtoc rendered.blocks old new
    → length (old (home_of head label.vtoc)) ≤ 65536 → length (new (home_of head label.vtoc)) ≤ 65536 → KeepsFormat4 head label.vtoc old new
keeps_four head label old new before after slots volume change rendered vtoc four was no_mark written slots_after old_short new_short first last one other =
    let is = writes_records volume slots change rendered vtoc four no_mark written in
    let plan = is.planned in
    let blocks : AreRewritten (edits_of is.records) head.device vtoc.run slots rendered.blocks =
    subst (λ (device : Device). AreRewritten (edits_of is.records) device vtoc.run slots rendered.blocks) was.volume_is.device_is
    (subst (λ (run : Run). AreRewritten (edits_of is.records) volume.device run slots rendered.blocks) was.volume_is.vtoc_is is.blocks_are) in
    let stands : IsVtocWith head new label.vtoc after (vtoc_after vtoc (edits_of is.records)) is.records.four.bytes =
    stands_after was new after (edits_of is.records) rendered.blocks is.records.four blocks (subst (λ (run : Run). AreSlotsAfter run rendered.blocks old new) was.volume_is.vtoc_is slots_after)
    (four_found was.sized (has_layout was) plan) (stated_long four.bytes is.records.four.bytes plan.highest plan.free (four_long was) plan.planned.four_is) plan.planned.four_is.format
    plan.planned.four_is.fields (stated_valid four.bytes is.records.four.bytes plan.highest plan.free (four_long was) plan.planned.four_is after) in
    let new_bytes : last ≡ is.records.four.bytes = one_format_4 _ new label.vtoc last stands.stands.bytes new_short other stands.stands.format_4 ∙ sym stands.four_is in
    let old_bytes : first ≡ four.bytes = one_format_4 _ old label.vtoc first was.stands.stands.bytes old_short one was.stands.stands.format_4 ∙ sym was.stands.four_is in
    ap fields_of_4 new_bytes ∙ plan.planned.four_is.fields ∙ sym (ap fields_of_4 old_bytes)
