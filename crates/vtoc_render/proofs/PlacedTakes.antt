-- What is put takes tracks that it may.
use Rattle.std.proofs.Common.{◌≡◌, ◌⊎◌, inl, inr, ℕ, ◌≤◌, List, [], ◌∷◌, ◌++◌, map, All, Contains, Bool, true, false, Option, Some, None, refl, sym, ap, subst, ◌∙◌, arith}
use Rattle.std.specs.Prelude.{option_to_list}
use Rattle.std.specs.List.{flat_map}
use Rattle.std.proofs.lemmas.List.Elements.{All-contains, Contains-append_cases}
use Rattle.ckd_image.specs.declared.head.Head.{Head}
use Rattle.ckd_image.specs.Device.{heads_of}
use Rattle.dscb_rec.specs.declared.field.Extent.{Extent}
use Rattle.free_map.specs.declared.run.Run.{Run}
use Rattle.free_map.specs.Free.{IsFree}
use Rattle.free_map.specs.Runs.{InRuns}
use Rattle.vol_label.specs.declared.label.Label.{Label}
use Rattle.volume_model.specs.declared.extent.ExtentField.{ExtentField}
use Rattle.volume_model.specs.declared.place.Placed.{Placed}
use Rattle.volume_model.specs.declared.place.Vtoc.{Vtoc}
use Rattle.volume_model.specs.Check.{track_0, same_bytes}
use Rattle.volume_model.specs.Sound.{Slots}
use Rattle.volume_model.specs.Space.{overlap, is_run, run_of}
use Rattle.vtoc_check.specs.Tracks.{HasTracks}
use Rattle.vtoc_check.proofs.Overlapping.{run_facts}
use Rattle.vtoc_core.specs.declared.volume.Row.{Row}
use Rattle.vtoc_core.specs.declared.volume.Volume.{Volume}
use Rattle.vtoc_core.specs.Loaded.{field_of}
use Rattle.vtoc_layout.specs.Layout.{SetRecords, AreApart, name_of, row_by, sets_of, layout_of, extents_by, extents_in_set}
use Rattle.vtoc_layout.proofs.Apart.{all_from}
use Rattle.vtoc_layout.proofs.Distinct.{from_map, from_flat, in_flat, in_front, in_back, one_of_map}
use Rattle.vtoc_layout.proofs.FreeRules.{held_in}
use Rattle.layout_found.specs.Sets.{set_named}
use Rattle.layout_edit.specs.Space.{runs_in_sets}
use Rattle.vtoc_plan.specs.Plan.{Putting}
use Rattle.volume_change.specs.declared.change.Change.{Change}
use Rattle.volume_change.specs.declared.change.Change.TheVariants.{Repair, Put, Swap, Remove, Mark}
use Rattle.volume_change.specs.Runs.{runs_in}
use Rattle.render_laws.specs.Rendered.{WasLoaded, MayTakeTracks, runs_put}
use Rattle.render_laws.proofs.Before.{has_layout, apart}
use Rattle.vtoc_render.specs.Loads.{gone_of}
use Rattle.vtoc_render.specs.Next.{MayChange, runs_of_rows}
use Rattle.vtoc_render.specs.Steps.{IsAimOf}
use Rattle.vtoc_render.specs.Change.{putting_of}
use Rattle.vtoc_render.proofs.LoadsPlan.{nothing_more}
use Rattle.vtoc_render.proofs.LoadsRows.{runs_put_are, ranges_put}
use Rattle.vtoc_render.proofs.May.{put_fits}
use Rattle.vtoc_layout.proofs.Finds.{found_passes, none_passes}
use Rattle.vtoc_render.proofs.NextCounts.{set_of_row}
use Rattle.vtoc_render.proofs.PlacedRows.{ArePair}
use Rattle.vtoc_render.proofs.PlacedSpace.{runs_of_pair, left_unused}
use Rattle.vtoc_render.proofs.PlacedTracks.{IsUnused, apart_if}
use Rattle.volume_model.proofs.Numbers.{bytes_itself, bytes_equal}
use Rattle.render_laws.proofs.SpaceAfter.{runs_two}

module _ {head : Head} {label : Label} {unit : Slots} {before : Bool} {slots : List ℕ} {volume : Volume} {vtoc : Vtoc} {four : Placed}
    (was : WasLoaded head label unit before slots volume vtoc four) where
  pub heads_same : heads_of volume.device ≡ vtoc.heads
  heads_same = ap heads_of was.volume_is.device_is ∙ sym was.stands.stands.heads_are

  -- the row of a name and its records
  old_pair : (name : List ℕ) (old : Row) → Contains volume.rows old → old.name ≡ name → ArePair (Some old) (gone_of vtoc (Some name))
  old_pair name old c named = by (set_named vtoc name) refl
    where
      by : (found : Option SetRecords) → set_named vtoc name ≡ found → ArePair (Some old) (option_to_list found)
      by None e =
          let s = set_of_row was old c in
          absurd (none_passes (λ set. same_bytes (name_of set) name) (sets_of vtoc) s.set e s.there (ap (λ (n : List ℕ). same_bytes n name) (s.named ∙ named) ∙ bytes_itself name))
      by (Some set) e =
          let s = set_of_row was old c in
          let found = found_passes (λ set. same_bytes (name_of set) name) (sets_of vtoc) set e in
          let one : s.set ≡ set = one_of_map name_of (sets_of vtoc) s.set set (has_layout was).names s.there found.0 (s.named ∙ named ∙ sym (bytes_equal (name_of set) name found.1)) in
          (set, refl, ap row_by (sym one) ∙ s.same)

  -- each track that is taken is free or given back
  tracks_may : (change : Change) (name : Option (List ℕ)) (put : Option Row) → IsAimOf change name put → MayChange volume change → (track : ℕ)
      → InRuns (runs_of_rows volume (option_to_list put)) track → IsFree volume.free track ⊎ InRuns (runs_in_sets vtoc.heads (gone_of vtoc name)) track
  tracks_may Repair name put aim may track h = absurd (subst (λ (put : Option Row). InRuns (runs_of_rows volume (option_to_list put)) track) aim.1 h)
  tracks_may (Put row) name put aim may track h =
      by (may.0.tracks track (subst (λ (runs : List Run). InRuns runs track) (nothing_more (runs_in (heads_of volume.device) row.extents))
      (subst (λ (put : Option Row). InRuns (runs_of_rows volume (option_to_list put)) track) aim.1 h)))
    where
      by : (IsFree volume.free track ⊎ InRuns (runs_of_rows volume []) track) → IsFree volume.free track ⊎ InRuns (runs_in_sets vtoc.heads (gone_of vtoc name)) track
      by (inl free) = inl free
      by (inr none) = absurd none
  tracks_may (Swap old row) name put aim may track h =
      by (may.1.3.tracks track (subst (λ (runs : List Run). InRuns runs track) (nothing_more (runs_in (heads_of volume.device) row.extents))
      (subst (λ (put : Option Row). InRuns (runs_of_rows volume (option_to_list put)) track) aim.1 h)))
    where
      by : (IsFree volume.free track ⊎ InRuns (runs_of_rows volume (may.1.0 ∷ [])) track) → IsFree volume.free track ⊎ InRuns (runs_in_sets vtoc.heads (gone_of vtoc name)) track
      by (inl free) = inl free
      by (inr given) =
          inr (subst (λ (name : Option (List ℕ)). InRuns (runs_in_sets vtoc.heads (gone_of vtoc name)) track) (sym aim.0)
          (subst (λ (runs : List Run). InRuns runs track)
          (runs_of_pair volume vtoc.heads (Some may.1.0) (gone_of vtoc (Some row.name)) heads_same (old_pair row.name may.1.0 may.1.1 may.1.2)) given))
  tracks_may (Remove old) name put aim may track h = absurd (subst (λ (put : Option Row). InRuns (runs_of_rows volume (option_to_list put)) track) aim.1 h)
  tracks_may Mark name put aim may track h = absurd aim

  -- its runs are apart
  one_apart : (row : Row) → AreApart (runs_in (heads_of volume.device) row.extents) → AreApart (runs_put vtoc.heads (putting_of (Some row)))
  one_apart row is =
      subst (λ (runs : List Run). AreApart runs)
      ((λ i. map (run_of (heads_same i)) (map field_of row.extents)) ∙ sym (ap (λ (fields : List ExtentField). map (run_of vtoc.heads) fields) (nothing_more (map field_of row.extents)))) is

  put_apart : (change : Change) (name : Option (List ℕ)) (put : Option Row) → IsAimOf change name put → MayChange volume change → AreApart (runs_put vtoc.heads (putting_of put))
  put_apart Repair name put aim may = subst (λ (put : Option Row). AreApart (runs_put vtoc.heads (putting_of put))) (sym aim.1) tt
  put_apart (Put row) name put aim may = subst (λ (put : Option Row). AreApart (runs_put vtoc.heads (putting_of put))) (sym aim.1) (one_apart row may.0.apart)
  put_apart (Swap old row) name put aim may = subst (λ (put : Option Row). AreApart (runs_put vtoc.heads (putting_of put))) (sym aim.1) (one_apart row may.1.3.apart)
  put_apart (Remove old) name put aim may = subst (λ (put : Option Row). AreApart (runs_put vtoc.heads (putting_of put))) (sym aim.1) tt
  put_apart Mark name put aim may = absurd aim

  pub takes_tracks : (change : Change) (name : Option (List ℕ)) (put : Option Row) (front back : List SetRecords) → sets_of vtoc ≡ front ++ (gone_of vtoc name ++ back) → IsAimOf change name put
      → MayChange volume change → MayTakeTracks vtoc volume.usable (front ++ back) (putting_of put)
  takes_tracks change name put front back parts aim may = record {
    ranges = ranges;
    off_track_0 =
        all_from (λ run. overlap run track_0 ≡ false) taken
        (λ run c. apart_if run track_0 (some run c) (omega arith) (λ track p q. (unused track (held_in taken run track c p)).some (omega (arith, q.1))));
    off_vtoc =
        all_from (λ run. overlap run vtoc.run ≡ false) taken
        (λ run c. apart_if run vtoc.run (some run c) was.sized.run_has (λ track p q. (unused track (held_in taken run track c p)).off q));
    off_others =
        all_from (λ run. All (λ other. overlap run other ≡ false) others) taken
        (λ run c. all_from (λ other. overlap run other ≡ false) others
        (λ other d. apart_if run other (some run c) (other_some other d)
        (λ track p q. (unused track (held_in taken run track c p)).none
        (subst (λ (runs : List Run). InRuns runs track) (runs_two vtoc.heads front back) (held_in others other track d q)))));
    apart = put_apart change name put aim may;
  }
    where
      taken : List Run
      taken = runs_put vtoc.heads (putting_of put)

      others : List Run
      others = runs_in_sets vtoc.heads (front ++ back)

      ranges : All (λ p. All (λ extent. is_run vtoc.heads volume.usable (field_of extent) ≡ true) p.extents) (putting_of put)
      ranges = ranges_put volume vtoc.heads put heads_same (put_fits volume change name put aim may)

      of_row : runs_put vtoc.heads (putting_of put) ≡ runs_of_rows volume (option_to_list put)
      of_row = subst (λ (heads : ℕ). runs_put heads (putting_of put) ≡ runs_of_rows volume (option_to_list put)) heads_same (runs_put_are volume put)

      unused : (track : ℕ) → InRuns taken track → IsUnused volume.usable vtoc.run (runs_in_sets vtoc.heads front ++ runs_in_sets vtoc.heads back) track
      unused track h =
          left_unused was front (gone_of vtoc name) back parts track (tracks_may change name put aim may track (subst (λ (runs : List Run). InRuns runs track) of_row h))

      some : (run : Run) → Contains taken run → 1 ≤ run.len
      some run c =
          let e = from_map (run_of vtoc.heads) (flat_map (λ (p : Putting). map field_of p.extents) (putting_of put)) run c in
          let p = from_flat (λ (p : Putting). map field_of p.extents) (putting_of put) e.0 e.1 in
          let x = from_map field_of p.0.extents e.0 p.2 in
          let each = All-contains (λ (p : Putting). All (λ extent. is_run vtoc.heads volume.usable (field_of extent) ≡ true) p.extents) (putting_of put) p.0 ranges p.1 in
          let is : is_run vtoc.heads volume.usable e.0 ≡ true =
          subst (λ (field : ExtentField). is_run vtoc.heads volume.usable field ≡ true) x.2
          (All-contains (λ (extent : Extent). is_run vtoc.heads volume.usable (field_of extent) ≡ true) p.0.extents x.0 each x.1) in
          subst HasTracks e.2 (run_facts vtoc.heads volume.usable e.0 is).1

      stayed : (set : SetRecords) → (Contains front set ⊎ Contains back set) → Contains (front ++ (gone_of vtoc name ++ back)) set
      stayed set (inl a) = in_front front (gone_of vtoc name ++ back) set a
      stayed set (inr b) = in_back front (gone_of vtoc name ++ back) set (in_back (gone_of vtoc name) back set b)

      other_some : (run : Run) → Contains others run → 1 ≤ run.len
      other_some run c =
          let e = from_map (run_of vtoc.heads) (flat_map extents_in_set (front ++ back)) run c in
          let s = from_flat extents_in_set (front ++ back) e.0 e.1 in
          let there : Contains (sets_of vtoc) s.0 = subst (λ (sets : List SetRecords). Contains sets s.0) (sym parts) (stayed s.0 (Contains-append_cases front back s.0 s.1)) in
          let is = All-contains (λ (extent : ExtentField). is_run vtoc.heads vtoc.limit extent ≡ true) (extents_by (layout_of vtoc four)) e.0 (apart was).ranges
          (in_flat extents_in_set (sets_of vtoc) s.0 e.0 there s.2) in
          subst HasTracks e.2 (run_facts vtoc.heads vtoc.limit e.0 is).1
