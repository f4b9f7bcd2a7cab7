-- The slots of a change that was written load to the next volume.
use Rattle.std.proofs.Common.{◌≡◌, ℕ, ◌+◌, List, ◌++◌, map, Bool, Option, sym, subst}
use Rattle.std.specs.Prelude.{IsTrue}
use Rattle.std.specs.List.Sorted.{IsPermutation}
use Rattle.ckd_image.specs.declared.device.Device.{Device}
use Rattle.ckd_image.specs.declared.head.Head.{Head}
use Rattle.free_map.specs.declared.run.Run.{Run}
use Rattle.free_map.specs.Runs.{AreMaximalRuns}
use Rattle.vol_label.specs.declared.label.Label.{Label}
use Rattle.volume_model.specs.declared.place.Placed.{Placed}
use Rattle.volume_model.specs.declared.place.Vtoc.{Vtoc}
use Rattle.volume_model.specs.Space.{is_free}
use Rattle.volume_model.specs.Sound.{Slots}
use Rattle.vtoc_core.specs.declared.volume.Row.{Row}
use Rattle.vtoc_core.specs.declared.volume.Volume.{Volume}
use Rattle.vtoc_core.specs.Loaded.{row_in}
use Rattle.vtoc_layout.specs.Layout.{row_by, runs_by}
use Rattle.layout_edit.specs.Change.{edits_of, layout_after}
use Rattle.vtoc_write.specs.Written.{AreRewritten}
use Rattle.vtoc_rewrite.specs.Rewrite.{AreSlotsAfter}
use Rattle.volume_change.specs.declared.change.Change.{Change}
use Rattle.volume_change.specs.Spot.{rows_with}
use Rattle.render_laws.specs.Rendered.{WasLoaded, MayTakeTracks}
use Rattle.vtoc_render.specs.declared.change.Rendered.{Rendered}
use Rattle.vtoc_render.specs.Loads.{LoadsFrom}
use Rattle.vtoc_render.specs.Next.{MayChange, used_by}
use Rattle.vtoc_render.specs.Render.{LoadsAfter}
use Rattle.vtoc_render.specs.Steps.{IsAimOf}
use Rattle.vtoc_render.specs.Written.{IsWritten, edits_with}
use Rattle.vtoc_render.proofs.Holds.{named_split}
use Rattle.vtoc_render.proofs.LoadsAfterIs.{after_is}
use Rattle.vtoc_render.specs.Change.{putting_of}
use Rattle.vtoc_render.proofs.LoadsPlan.{sets_put, change_of, edits_same, was_planned}
use Rattle.vtoc_render.proofs.LoadsVolume.{loads_counted}
use Rattle.vtoc_render.proofs.NextVolume.{count_after}

-- what is put takes tracks that it may, and the next volume has the rows and the free tracks of the layout after the change
pub record IsPlaced (volume : Volume) (slots : List ℕ) (name : Option (List ℕ)) (put : Option Row) (rendered : Rendered) (is : IsWritten volume slots name put rendered) (vtoc : Vtoc) : Type 0 where
  pub takes : MayTakeTracks vtoc volume.usable ((named_split vtoc name).0 ++ (named_split vtoc name).1) (putting_of put)
  pub rows_are : IsPermutation (map row_by ((named_split vtoc name).0 ++ (sets_put is.set ++ (named_split vtoc name).1))) (map row_in (rows_with volume.rows is.spot is.row))
  pub free_are : AreMaximalRuns
      (λ track.
      IsTrue (is_free volume.usable vtoc.run
      (runs_by vtoc.heads (layout_after (named_split vtoc name).0 (change_of is.four is.fives is.set is.allotment) (named_split vtoc name).1)) track)) is.free.runs

pub loads_is : (volume : Volume) (slots : List ℕ) (change : Change) (name : Option (List ℕ)) (put : Option Row) (rendered : Rendered) → LoadsFrom volume slots → MayChange volume change
    → IsAimOf change name put → (is : IsWritten volume slots name put rendered)
    → ((head : Head) (label : Label) (unit : Slots) (before : Bool) (vtoc : Vtoc) (four : Placed) → WasLoaded head label unit before slots volume vtoc four
    → IsPlaced volume slots name put rendered is vtoc)
    → LoadsAfter volume slots change rendered
loads_is volume slots change name put rendered loads may aim is placed = λ head label old new before after vtoc four was slots_after when.
    let p = placed head label old before vtoc four was in
    let planned = change_of is.four is.fives is.set is.allotment in
    let edits = edits_with is.four is.fives is.set is.allotment in
    let blocks : AreRewritten (edits_of planned) head.device vtoc.run slots rendered.blocks =
    subst (λ (edits : List Placed). AreRewritten edits head.device vtoc.run slots rendered.blocks) (sym (edits_same is.four is.fives is.set is.allotment))
    (subst (λ (run : Run). AreRewritten edits head.device run slots rendered.blocks) was.volume_is.vtoc_is
    (subst (λ (device : Device). AreRewritten edits device volume.vtoc slots rendered.blocks) was.volume_is.device_is is.blocks_are)) in
    let slots_then : AreSlotsAfter vtoc.run rendered.blocks old new = subst (λ (run : Run). AreSlotsAfter run rendered.blocks old new) was.volume_is.vtoc_is slots_after in
    let count : rendered.next.free_dscbs + used_by rendered.next ≡ rendered.next.dscbs =
    subst (λ (next : Volume). next.free_dscbs + used_by next ≡ next.dscbs) (sym is.next_is) (count_after volume slots change name put rendered loads may aim is) in
    loads_counted was (was_planned was change name put rendered may aim is) p.takes (after_is was change name put rendered (layout_after (named_split vtoc name).0 planned (named_split vtoc name).1) may aim is p.rows_are p.free_are) new after rendered.blocks blocks slots_then count
