-- What is put takes tracks that it may, and the volume afterwards is that of its layout.
use Rattle.std.proofs.Common.{◌≡◌, ℕ, List, [], ◌∷◌, ◌++◌, length, map, take, Bool, Option, Some, None, refl, sym, ap, subst, ◌∙◌, arith, length-append}
use Rattle.std.proofs.lemmas.Option.{same_Some}
use Rattle.std.specs.List.{flat_map}
use Rattle.std.specs.Prelude.{option_to_list}
use Rattle.std.proofs.lemmas.List.{length-take}
use Rattle.ckd_image.specs.declared.head.Head.{Head}
use Rattle.dscb_rec.specs.declared.field.Extent.{Extent}
use Rattle.free_map.specs.declared.run.Run.{Run}
use Rattle.free_map.specs.Runs.{AreMaximalRuns}
use Rattle.vol_label.specs.declared.label.Label.{Label}
use Rattle.volume_model.specs.declared.place.Place.{Place}
use Rattle.volume_model.specs.declared.place.Placed.{Placed}
use Rattle.volume_model.specs.declared.place.Vtoc.{Vtoc}
use Rattle.volume_model.specs.Sound.{Slots}
use Rattle.vtoc_core.specs.declared.volume.Row.{Row}
use Rattle.vtoc_core.specs.Loaded.{field_of}
use Rattle.vtoc_core.specs.declared.volume.Volume.{Volume}
use Rattle.vtoc_layout.specs.Layout.{SetRecords, extents_in_set}
use Rattle.layout_edit.specs.Space.{runs_in_sets}
use Rattle.vtoc_allot.specs.declared.held.Held.{Held}
use Rattle.vtoc_allot.specs.declared.held.Wanted.{Wanted}
use Rattle.vtoc_allot.specs.declared.places.Allotment.{Allotment}
use Rattle.vtoc_allot.specs.Allotted.{listed, one_if, IsAllotted}
use Rattle.vtoc_making.specs.declared.set.SetWritten.{SetWritten}
use Rattle.vtoc_making.specs.Places.{IsThreeWritten}
use Rattle.volume_change.specs.declared.change.Change.{Change}
use Rattle.volume_change.specs.Runs.{IsFreeAfter}
use Rattle.render_laws.specs.Rendered.{WasLoaded}
use Rattle.render_laws.proofs.Before.{has_layout}
use Rattle.render_laws.proofs.LayoutAfter.{put_extents}
use Rattle.vtoc_render.specs.Next.{IsRowPut, MayChange, runs_of_rows}
use Rattle.vtoc_render.specs.Steps.{IsSetFor, IsRowFor, has_three, wanted_for, IsAimOf, gone_from}
use Rattle.vtoc_render.specs.declared.change.Rendered.{Rendered}
use Rattle.vtoc_render.specs.Loads.{gone_of}
use Rattle.vtoc_render.specs.Written.{IsWritten, second_of}
use Rattle.vtoc_render.specs.Change.{putting_of}
use Rattle.vtoc_render.proofs.LoadsPlan.{sets_put, nothing_more, was_planned}
use Rattle.vtoc_render.proofs.NextRows.{fields_same, runs_same}
use Rattle.vtoc_render.proofs.PlacedRows.{ArePair, gone_pair, rows_after_are}
use Rattle.vtoc_render.proofs.PlacedSpace.{runs_of_pair, free_after_is}
use Rattle.vtoc_render.proofs.PlacedTakes.{heads_same, takes_tracks}
use Rattle.vtoc_render.proofs.Holds.{named_split}
use Rattle.vtoc_render.proofs.LoadsWritten.{IsPlaced}
use Rattle.vtoc_render.proofs.NextVolume.{put_named, put_written}

-- ---- the row that is put

three_long : (records : List Placed) (second : Place) (held : Held) (wanted : Wanted) (allotment : Allotment) → IsAllotted records second held wanted allotment
    → length (listed allotment.three) ≡ one_if wanted.three
three_long records second held wanted allotment is =
    omega (
      arith,
      ap length is.three_is,
      length-take (one_if wanted.three) held.threes,
      length-append (take (one_if wanted.three) held.threes) is.threes,
      is.parts.so_many_threes,
    )

three_same : (extents : List Extent) (at : Option Place) (three : Option Placed) → IsThreeWritten extents at three → length (listed three) ≡ length (listed at)
three_same extents None None is = refl
three_same extents None (Some three) is = absurd is
three_same extents (Some place) None is = absurd is
three_same extents (Some place) (Some three) is = refl

pub put_pair : (heads : ℕ) (put : Option Row) (allotment : Allotment) (set : Option SetWritten) (row : Option Row) → IsSetFor heads put allotment set → IsRowFor put set row
    → length (listed allotment.three) ≡ one_if (has_three put)
    → flat_map extents_in_set (sets_put set) ≡ flat_map (λ p. map field_of p.extents) (putting_of put) → ArePair row (sets_put set)
put_pair heads None allotment set row set_is row_is long extents =
    subst (λ (row : Option Row). ArePair row (sets_put set)) (sym row_is) (ap sets_put set_is)
put_pair heads (Some given) allotment set row set_is row_is long extents =
    let written = row_is.0 in
    let put = row_is.1 in
    let is : IsRowPut given put = row_is.4 in
    let records : SetRecords = record { one = written.one; threes = listed written.three } in
    let same : set_is.1 ≡ written = same_Some set_is.1 written (sym set_is.3 ∙ row_is.2) in
    let of_set : flat_map extents_in_set (records ∷ []) ≡ map field_of given.extents ++ [] =
    subst (λ (set : Option SetWritten). flat_map extents_in_set (sets_put set) ≡ map field_of given.extents ++ []) row_is.2 extents in
    let extents_are : extents_in_set records ≡ map field_of put.extents =
    sym (nothing_more (extents_in_set records)) ∙ of_set ∙ nothing_more (map field_of given.extents) ∙ sym (fields_same 0 given.extents) ∙ sym (ap (map field_of) is.extents_are) in
    let threes_are : length (listed written.three) ≡ put.threes =
    sym (ap (λ (set : SetWritten). length (listed set.three)) same) ∙ three_same given.extents allotment.three set_is.1.three set_is.4.three_is ∙ long ∙ sym is.threes_are in
    subst (λ (row : Option Row). ArePair row (sets_put set)) (sym row_is.3)
    (records, ap sets_put row_is.2, λ i. record { format_1 = sym row_is.5 i; extents = extents_are i; threes = threes_are i })

module _ {head : Head} {label : Label} {unit : Slots} {before : Bool} {slots : List ℕ} {volume : Volume} {vtoc : Vtoc} {four : Placed}
    (was : WasLoaded head label unit before slots volume vtoc four) where
  pub placed_is : (change : Change) (name : Option (List ℕ)) (put : Option Row) (rendered : Rendered) → MayChange volume change → IsAimOf change name put
      → (is : IsWritten volume slots name put rendered) → IsPlaced volume slots name put rendered is vtoc
  placed_is change name put rendered may aim is =
      let parts = named_split vtoc name in
      let sets = sets_put is.set in
      let gone_row = gone_from volume.rows is.spot in
      let runs : List SetRecords → List Run = λ sets. runs_in_sets vtoc.heads sets in
      let long = three_long is.base.directory.records.items (second_of volume) is.held (wanted_for put (length is.free.runs)) is.allotment is.allotted in
      let extents = put_extents was.sized (has_layout was) (was_planned was change name put rendered may aim is) in
      let pair = put_pair _ put is.allotment is.set is.row is.set_is is.row_is long extents in
      let as_put = put_written _ put is.allotment is.set is.row (put_named volume change name put aim may) is.set_is is.row_is in
      let gone_same : runs_of_rows volume (option_to_list gone_row) ≡ runs (gone_of vtoc name) =
      runs_of_pair volume vtoc.heads gone_row (gone_of vtoc name) (heads_same was) (gone_pair was name is.spot is.spot_is) in
      let put_same : runs_of_rows volume (option_to_list put) ≡ runs sets =
      sym (runs_same volume put is.row as_put) ∙ runs_of_pair volume vtoc.heads is.row sets (heads_same was) pair in
      let left : AreMaximalRuns (IsFreeAfter volume.free (runs (gone_of vtoc name)) (runs sets)) is.free.runs =
      subst (λ (gone : List Run). AreMaximalRuns (IsFreeAfter volume.free gone (runs sets)) is.free.runs) gone_same
      (subst (λ (put : List Run). AreMaximalRuns (IsFreeAfter volume.free (runs_of_rows volume (option_to_list gone_row)) put) is.free.runs) put_same is.space.free_are) in
      record {
        takes = takes_tracks was change name put parts.0 parts.1 parts.2 aim may;
        rows_are = rows_after_are was name is.spot is.row sets is.spot_is pair;
        free_are = free_after_is was parts.0 (gone_of vtoc name) parts.1 parts.2 sets is.free.runs left;
      }
