-- A change that was written, record by record.
use Rattle.std.proofs.Common.{◌≡◌, ◌≢◌, ℕ, List, [], ◌∷◌, map, filter, Bool, Option, refl, sym, ap, subst, ◌∙◌}
use Rattle.ckd_image.specs.declared.head.Head.{Head}
use Rattle.ckd_image.specs.Device.{heads_of}
use Rattle.vol_label.specs.declared.label.Label.{Label}
use Rattle.volume_model.specs.declared.place.Placed.{Placed}
use Rattle.volume_model.specs.declared.place.Vtoc.{Vtoc}
use Rattle.volume_model.specs.Dscbs.{format_of, is_f1}
use Rattle.volume_model.specs.Sound.{Slots}
use Rattle.vtoc_core.specs.declared.volume.Row.{Row}
use Rattle.vtoc_core.specs.declared.volume.Volume.{Volume}
use Rattle.vtoc_layout.specs.Layout.{SetRecords, layout_of}
use Rattle.layout_edit.specs.Change.{IsChangeOf, edits_of, vtoc_after}
use Rattle.vtoc_allot.specs.declared.held.Held.{Held}
use Rattle.vtoc_allot.specs.declared.places.Allotment.{Allotment}
use Rattle.vtoc_allot.specs.Allotted.{listed}
use Rattle.vtoc_making.specs.Places.{next_pointer, last_of, is_one_after}
use Rattle.vtoc_plan.specs.Plan.{Putting, ArePut}
use Rattle.vtoc_plan.proofs.Changes.{change_is}
use Rattle.vtoc_write.specs.Written.{AreRewritten}
use Rattle.volume_change.specs.declared.change.Change.{Change}
use Rattle.volume_change.specs.declared.change.Change.TheVariants.{Repair, Put, Swap, Remove, Mark}
use Rattle.render_laws.specs.Rendered.{WasLoaded}
use Rattle.render_laws.proofs.Before.{has_layout}
use Rattle.render_laws.proofs.LayoutAfter.{records_after}
use Rattle.vtoc_render.specs.declared.change.Rendered.{Rendered}
use Rattle.vtoc_render.specs.Change.{putting_of, highest_in, WritesRecords, IsChangeWritten}
use Rattle.vtoc_render.specs.Loads.{OfEachVtoc, gone_of}
use Rattle.vtoc_render.specs.Next.{MayChange}
use Rattle.vtoc_render.specs.Steps.{IsAimOf}
use Rattle.vtoc_render.specs.Written.{IsWritten, IsMarked}
use Rattle.vtoc_render.proofs.Highest.{last_after, one_at}
use Rattle.vtoc_render.proofs.Holds.{named_split}
use Rattle.vtoc_render.proofs.LoadsPlan.{change_of, edits_same, parts_with, was_planned, plan_is}
use Rattle.vtoc_render.proofs.NextVolume.{no_mark}

-- ---- the format 1 that is put

ones_put : (heads : ℕ) (putting : List Putting) (allotment : Allotment) (put : List SetRecords) → ArePut heads putting allotment put → listed allotment.one ≡ map one_at put
ones_put heads [] allotment [] is = ap listed is.0
ones_put heads [] allotment (set ∷ sets) is = absurd is
ones_put heads (putting ∷ []) allotment [] is = absurd is
ones_put heads (putting ∷ []) allotment (set ∷ []) is = ap listed is.one_at
ones_put heads (putting ∷ []) allotment (set ∷ other ∷ sets) is = absurd is
ones_put heads (putting ∷ other ∷ more) allotment put is = absurd is

module _ {head : Head} {label : Label} {unit : Slots} {before : Bool} {slots : List ℕ} {volume : Volume} {vtoc : Vtoc} {four : Placed}
    (was : WasLoaded head label unit before slots volume vtoc four) where
  pub writes_records : (change : Change) (name : Option (List ℕ)) (put : Option Row) (rendered : Rendered) → MayChange volume change → IsAimOf change name put
      → IsWritten volume slots name put rendered → WritesRecords volume slots change rendered vtoc four
  writes_records change name put rendered may aim is =
      let parts = named_split vtoc name in
      let records = change_of is.four is.fives is.set is.allotment in
      let plan = was_planned was change name put rendered may aim is in
      let as_is = plan_is was change name put rendered may aim is in
      let layout = layout_of vtoc four in
      let has = has_layout was in
      let made : IsChangeOf vtoc layout parts.0 (gone_of vtoc name) parts.1 records =
      change_is vtoc layout parts.0 (gone_of vtoc name) parts.1 plan.held plan.wanted plan.second plan.allotment (putting_of put) (parts_with volume slots name put rendered is) plan.highest plan.free
      records was.sized has plan.sets_are plan.one_gone plan.holds plan.wants plan.may plan.allotted plan.planned in
      let ground = is.ground_is head label unit before vtoc four was in
      let heads : heads_of volume.device ≡ vtoc.heads = ap heads_of was.volume_is.device_is ∙ sym was.stands.stands.heads_are in
      let test = is_one_after is.held.one is.allotment.one in
      let is_one : Placed → Bool = λ placed. is_f1 (format_of placed.bytes) in
      let from : listed is.held.one ≡ map one_at (gone_of vtoc name) = ap (λ (held : Held). listed held.one) (sym as_is.held_is) ∙ plan.holds.one_is in
      let to : listed is.allotment.one ≡ map one_at records.put =
      ap (λ (allotment : Allotment). listed allotment.one) (sym as_is.allotment_is) ∙ ones_put vtoc.heads (putting_of put) plan.allotment records.put plan.planned.put_are in
      let last = last_after vtoc layout parts.0 (gone_of vtoc name) parts.1 records was.sized has made is.held.one is.allotment.one from to in
      let highest : plan.highest ≡ highest_in (vtoc_after vtoc (edits_of records)) =
      as_is.highest_is
      ∙ ap (λ (h : ℕ). next_pointer h (last_of (filter test is.base.directory.records.items))) heads
      ∙ ap (λ (rs : List Placed). next_pointer vtoc.heads (last_of (filter test rs))) ground.records_are
      ∙ ap (next_pointer vtoc.heads) (sym last)
      ∙ ap (λ (rs : List Placed). next_pointer vtoc.heads (last_of (filter is_one rs))) (sym (records_after was.sized has plan)) in
      record {
        name = name;
        put = put;
        front = parts.0;
        back = parts.1;
        parts = parts_with volume slots name put rendered is;
        records = records;
        aim = aim;
        planned = plan;
        second_is = as_is.second_is;
        free_is = as_is.free_is ∙ ap (λ (next : Volume). next.free_dscbs) (sym is.next_is);
        highest_is = highest;
        blocks_are =
            subst (λ (edits : List Placed). AreRewritten edits volume.device volume.vtoc slots rendered.blocks) (sym (edits_same is.four is.fives is.set is.allotment)) is.blocks_are;
      }

-- ---- any change

records_written : (volume : Volume) (slots : List ℕ) (change : Change) (rendered : Rendered) (vtoc : Vtoc) (four : Placed) → change ≢ Mark → WritesRecords volume slots change rendered vtoc four
    → IsChangeWritten volume slots change rendered vtoc four
records_written volume slots Repair rendered vtoc four other is = is
records_written volume slots (Put row) rendered vtoc four other is = is
records_written volume slots (Swap name row) rendered vtoc four other is = is
records_written volume slots (Remove name) rendered vtoc four other is = is
records_written volume slots Mark rendered vtoc four other is = absurd (other refl)

pub change_written : (volume : Volume) (slots : List ℕ) (change : Change) (name : Option (List ℕ)) (put : Option Row) (rendered : Rendered) → MayChange volume change → IsAimOf change name put
    → IsWritten volume slots name put rendered → OfEachVtoc volume slots (IsChangeWritten volume slots change rendered)
change_written volume slots change name put rendered may aim is = λ head label unit before vtoc four was.
    records_written volume slots change rendered vtoc four (no_mark change name put aim) (writes_records was change name put rendered may aim is)

pub mark_written : (volume : Volume) (slots : List ℕ) (change : Change) (rendered : Rendered) → change ≡ Mark → OfEachVtoc volume slots (IsMarked volume slots rendered)
    → OfEachVtoc volume slots (IsChangeWritten volume slots change rendered)
mark_written volume slots change rendered is_mark is =
    subst (λ (change : Change). OfEachVtoc volume slots (IsChangeWritten volume slots change rendered)) (sym is_mark) is
