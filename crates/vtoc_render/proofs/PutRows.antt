-- The extents of a volume's rows are runs below its usable tracks.
use Rattle.std.proofs.Common.{◌≡◌, ℕ, ◌+◌, ◌-◌, ◌<◌, ◌≤◌, List, ◌∷◌, map, Contains, Bool, true, false, nat_lt, nat_le, ◌&&◌, Option, Some, None, IfSome, refl, sym, ap, subst, ◌∙◌, arith}
use Rattle.std.specs.Prelude.{slice_get, if◌then◌else◌}
use Rattle.std.proofs.lemmas.Bool.{and_parts, leb-true, lt-ltb}
use Rattle.std.proofs.lemmas.List.Elements.{All-contains}
use Rattle.std.proofs.lemmas.List.Sorted.{Contains-permutation, IsPermutation-sym}
use Rattle.std.proofs.lemmas.Option.{slice_get_within, get_or_from_slice_get}
use Rattle.ckd_image.specs.declared.head.Head.{Head}
use Rattle.ckd_image.specs.Device.{heads_of}
use Rattle.dscb_rec.specs.declared.field.Extent.{Extent}
use Rattle.vol_label.specs.declared.label.Label.{Label}
use Rattle.volume_model.specs.declared.extent.ExtentField.{ExtentField}
use Rattle.volume_model.specs.declared.place.Placed.{Placed}
use Rattle.volume_model.specs.declared.place.Vtoc.{Vtoc}
use Rattle.volume_model.specs.Check.{records_of, track_0, extents_in}
use Rattle.volume_model.specs.Directory.{rows_of}
use Rattle.volume_model.specs.Sound.{Slots}
use Rattle.volume_model.specs.Space.{end_of, track_at, is_run, run_of}
use Rattle.vtoc_core.specs.declared.volume.Row.{Row}
use Rattle.vtoc_core.specs.declared.volume.Volume.{Volume}
use Rattle.vtoc_core.specs.Loaded.{row_in, field_of}
use Rattle.vtoc_layout.specs.Layout.{SetRecords, layout_of, sets_of, row_by, extents_in_set, extents_by}
use Rattle.vtoc_layout.proofs.Apart.{all_from}
use Rattle.vtoc_layout.proofs.Distinct.{in_later, from_map, in_flat}
use Rattle.vtoc_layout.proofs.Layouts.{rows}
use Rattle.volume_change.specs.declared.spot.Spot.{Spot}
use Rattle.render_laws.specs.Rendered.{WasLoaded}
use Rattle.render_laws.proofs.Before.{has_layout, apart, ends, extent_there}
use Rattle.vtoc_render.specs.Steps.{AreBelow, gone_from}
use Rattle.ckd_image.proofs.Lists.{contains_map}

-- a run that ends below some tracks is one of these
pub run_below : (heads limit usable : ℕ) (extent : ExtentField) → is_run heads limit extent ≡ true → end_of (run_of heads extent) ≤ usable → is_run heads usable extent ≡ true
run_below heads limit usable extent is within =
    let known = nat_lt extent.first.head heads && nat_lt extent.last.head heads in
    let ordered = nat_le (track_at heads extent.first) (track_at heads extent.last) in
    let parts = and_parts (known && ordered) (nat_lt (track_at heads extent.last) limit) is in
    let less = leb-true (track_at heads extent.first) (track_at heads extent.last) (and_parts known ordered parts.0).1 in
    ap (λ (b : Bool). b && nat_lt (track_at heads extent.last) usable) parts.0
    ∙ lt-ltb (track_at heads extent.last) usable (by (track_at heads extent.first) (track_at heads extent.last) less within)
  where
    by : (a b : ℕ) → a ≤ b → a + (b + 1 - a) ≤ usable → b < usable
    by a b p q = omega (arith, p, q)

module _ {head : Head} {label : Label} {unit : Slots} {before : Bool} {slots : List ℕ} {volume : Volume} {vtoc : Vtoc} {four : Placed}
    (was : WasLoaded head label unit before slots volume vtoc four) where
  same_heads : vtoc.heads ≡ heads_of volume.device
  same_heads = was.stands.stands.heads_are ∙ sym (ap heads_of was.volume_is.device_is)

  set_below : (set : SetRecords) → Contains (sets_of vtoc) set → (extent : ExtentField) → Contains (extents_in_set set) extent → is_run vtoc.heads volume.usable extent ≡ true
  set_below set c extent h =
      let extents = extents_by (layout_of vtoc four) in
      let there = in_flat extents_in_set (sets_of vtoc) set extent c h in
      let run = run_of vtoc.heads extent in
      run_below vtoc.heads vtoc.limit volume.usable extent (All-contains (λ (e : ExtentField). is_run vtoc.heads vtoc.limit e ≡ true) extents extent (apart was).ranges there)
      (ends was run
      (in_later track_0 run (vtoc.run ∷ extents_in vtoc) (in_later vtoc.run run (extents_in vtoc) (extent_there was run (contains_map (run_of vtoc.heads) extents extent there)))))

  row_below : (row : Row) → Contains volume.rows row → AreBelow volume row.extents
  row_below row c =
      let found = rows_of vtoc.heads (records_of vtoc) in
      let rows_are = map row_in volume.rows in
      let sets = map row_by (sets_of vtoc) in
      let listed = Contains-permutation rows_are found (row_in row) (IsPermutation-sym found rows_are was.volume_is.rows_are.same) (contains_map row_in volume.rows row c) in
      let at = from_map row_by (sets_of vtoc) (row_in row) (Contains-permutation found sets (row_in row) (rows vtoc (layout_of vtoc four) was.sized (has_layout was)) listed) in
      all_from (λ (extent : Extent). is_run (heads_of volume.device) volume.usable (field_of extent) ≡ true) row.extents
      (λ extent h.
      subst (λ (heads : ℕ). is_run heads volume.usable (field_of extent) ≡ true) same_heads
      (set_below at.0 at.1 (field_of extent)
      (subst (λ (fields : List ExtentField). Contains fields (field_of extent)) (λ i. (sym at.2 i).extents) (contains_map field_of row.extents extent h))))

  -- those of the row that goes
  pub gone_below : (spot : Spot) → IfSome (gone_from volume.rows spot) (λ row. AreBelow volume row.extents)
  gone_below spot = by spot.goes
    where
      found : (o : Option Row) → slice_get volume.rows spot.place ≡ o → IfSome o (λ row. AreBelow volume row.extents)
      found None e = tt
      found (Some row) e = row_below row (spot.place, slice_get_within volume.rows spot.place row e, get_or_from_slice_get volume.rows spot.place row row e)

      by : (goes : Bool) → IfSome (if goes then slice_get volume.rows spot.place else None) (λ row. AreBelow volume row.extents)
      by true = found (slice_get volume.rows spot.place) refl
      by false = tt
