-- What the volume after a change says, but for its rows and its free tracks.
use Rattle.std.proofs.Common.{◌≡◌, ℕ, zero, suc, ◌*◌, ◌≤◌, List, [], ◌∷◌, ◌++◌, length, map, take, drop, Bool, Option, refl, sym, ap, subst, ◌∙◌, arith}
use Rattle.std.specs.Prelude.{IsTrue}
use Rattle.std.specs.List.{flat_map}
use Rattle.std.specs.List.Sorted.{IsPermutation}
use Rattle.std.proofs.lemmas.List.{take-append-drop, length-map, length-drop}
use Rattle.ckd_image.specs.declared.head.Head.{Head}
use Rattle.dscb_rec.specs.declared.field.Entry5.{Entry5}
use Rattle.free_map.specs.Entries.{entry_of}
use Rattle.free_map.specs.Runs.{AreMaximalRuns}
use Rattle.vol_label.specs.declared.label.Label.{Label}
use Rattle.volume_model.specs.declared.place.Placed.{Placed}
use Rattle.volume_model.specs.declared.place.Vtoc.{Vtoc}
use Rattle.volume_model.specs.Space.{is_free}
use Rattle.volume_model.specs.Sound.{Slots}
use Rattle.volume_model.specs.Unit.{fives_for}
use Rattle.vtoc_core.specs.declared.volume.Row.{Row}
use Rattle.vtoc_core.specs.declared.volume.Volume.{Volume}
use Rattle.vtoc_core.specs.Loaded.{row_in}
use Rattle.vtoc_layout.specs.Layout.{Layout, row_by, runs_by}
use Rattle.vtoc_making.specs.Places.{parts_of}
use Rattle.volume_change.specs.declared.change.Change.{Change}
use Rattle.volume_change.specs.Spot.{rows_with}
use Rattle.render_laws.specs.Rendered.{WasLoaded, IsVolumeAfter}
use Rattle.vtoc_render.specs.declared.change.Rendered.{Rendered}
use Rattle.vtoc_render.specs.Next.{MayChange}
use Rattle.vtoc_render.specs.Steps.{IsAimOf, wanted_for}
use Rattle.vtoc_render.specs.Written.{IsWritten, second_of}
use Rattle.vtoc_render.proofs.Known.{rows_named}
use Rattle.vtoc_render.proofs.LoadsPlan.{parts_with, length_parts}
use Rattle.vtoc_render.proofs.PutPlaces.{so_many_fives}
use Rattle.vtoc_render.proofs.NextRows.{named_after}
use Rattle.vtoc_render.proofs.NextVolume.{put_named, put_written}

pub parts_whole : (count : ℕ) (entries : List Entry5) → length entries ≤ 26 * count → flat_map (λ entries. entries) (parts_of count entries) ≡ entries
parts_whole zero [] less = refl
parts_whole zero (entry ∷ entries) less = absurd (never less)
  where
    never : length (entry ∷ entries) ≤ 26 * 0 → ⊥
    never less = omega (arith, less)
parts_whole (suc count) entries less =
    ap (λ (rest : List Entry5). take 26 entries ++ rest) (parts_whole count (drop 26 entries) (omega (arith, less, length-drop 26 entries))) ∙ take-append-drop 26 entries

enough : (runs : ℕ) → runs ≤ 26 * fives_for runs
enough runs = omega arith

module _ {head : Head} {label : Label} {unit : Slots} {before : Bool} {slots : List ℕ} {volume : Volume} {vtoc : Vtoc} {four : Placed}
    (was : WasLoaded head label unit before slots volume vtoc four) where
  pub after_is : (change : Change) (name : Option (List ℕ)) (put : Option Row) (rendered : Rendered) (layout : Layout) → MayChange volume change → IsAimOf change name put
      → (is : IsWritten volume slots name put rendered)
      → IsPermutation (map row_by layout.sets) (map row_in (rows_with volume.rows is.spot is.row))
      → AreMaximalRuns (λ track. IsTrue (is_free volume.usable vtoc.run (runs_by vtoc.heads layout) track)) is.free.runs
      → IsVolumeAfter vtoc volume layout (parts_with volume slots name put rendered is) rendered.next
  after_is change name put rendered layout may aim is rows_are free_are =
      let as_put = put_written _ put is.allotment is.set is.row (put_named volume change name put aim may) is.set_is is.row_is in
      let named = named_after volume change name put is.row is.spot (rows_named was) aim is.spot_is as_put in
      let many : length is.allotment.fives ≡ fives_for (length is.free.runs) =
      so_many_fives is.base.directory.records.items (second_of volume) is.held (wanted_for put (length is.free.runs)) is.allotment is.allotted in
      let entries = map (entry_of is.free.heads) is.free.runs in
      let heads : is.free.heads ≡ vtoc.heads = is.space.heads_are ∙ was.volume_is.space.heads_are in
      let parts = parts_with volume slots name put rendered is in
      subst (λ (next : Volume). IsVolumeAfter vtoc volume layout parts next) (sym is.next_is)
      (record {
        serial_is = refl;
        device_is = refl;
        usable_is = refl;
        vtoc_is = refl;
        rows_are = rows_are;
        in_order = named.order;
        names_are = named.names;
        free_are = free_are;
        limit_is = is.space.usable_is ∙ was.volume_is.space.limit_is;
        heads_are = heads;
        stated =
            parts_whole (length is.allotment.fives) entries (omega (arith, length-map is.free.runs (entry_of is.free.heads), enough (length is.free.runs), many))
            ∙ ap (λ (h : ℕ). map (entry_of h) is.free.runs) heads;
        repair_is = refl;
        indexed_is = refl;
        dscbs_are = refl;
        fives_are = sym many ∙ sym (length_parts (length is.allotment.fives) entries);
      })
