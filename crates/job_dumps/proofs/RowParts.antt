-- A loaded row as a part has it: a format 1 without places, of 140 bytes, and tracks that are there.
use Rattle.std.proofs.Common.{◌≡◌, inl, inr, ℕ, suc, ◌+◌, ◌-◌, ◌<◌, ◌≤◌, ◌==◌, ◌&&◌, Bool, true, false, List, [], ◌∷◌, ◌++◌, length, take, drop, replicate, get_or, All, Contains, Option, Some, None, refl, sym, ap, subst, ◌∙◌, arith, length-append}
use Rattle.std.specs.Prelude.{slice_get, slice_index_or, if◌then◌else◌, nat_lt, nat_le}
use Rattle.std.proofs.Math.Seq.{take-append-add}
use Rattle.std.proofs.lemmas.Bool.{and_parts, eqb-true, ltb-true}
use Rattle.std.proofs.lemmas.List.{append-nil, drop_all, drop_at, length-drop, length-take-le, get_or_append_left}
use Rattle.std.proofs.lemmas.List.Elements.{All-contains, All-map, All-nil, All-weaker, Contains-append_cases}
use Rattle.ckd_image.specs.Device.{heads_of, slot_of}
use Rattle.dasd_pool.specs.Calls.{size_in}
use Rattle.dasd_pool.specs.Disk.{Shape}
use Rattle.dscb_rec.specs.declared.field.Extent.{Extent as Field}
use Rattle.dump_fmt.specs.Parts.{DumpPart, IsPart, IsPlaceless, StandsOn}
use Rattle.dump_fmt.specs.Front.{begun}
use Rattle.volume_model.specs.declared.extent.ExtentField.{ExtentField}
use Rattle.volume_model.specs.declared.format.Format.TheVariants.{Broken, Free, F1, F3, F4, F5}
use Rattle.volume_model.specs.declared.place.Placed.{Placed}
use Rattle.volume_model.specs.declared.place.Vtoc.{Vtoc}
use Rattle.volume_model.specs.Check.{records_of}
use Rattle.volume_model.specs.Directory.{DirectoryRow, placed_from, placed_in}
use Rattle.volume_model.specs.Dscbs.{format_of, is_f1, is_filled, numbers_below}
use Rattle.volume_model.specs.Reads.{extent_in, fields_of_1}
use Rattle.volume_model.specs.Sound.{Slots, IsDscbRecord, IsReading, IsTrackReading, IsVtocTrack, dscb_of}
use Rattle.volume_model.specs.Space.{is_run, track_at}
use Rattle.volume_model.specs.Unit as models
use Rattle.volume_model.proofs.Fields.{field_ahead}
use Rattle.vtoc_core.specs.declared.volume.Row.{Row}
use Rattle.vtoc_core.specs.declared.volume.Volume.{Volume}
use Rattle.vtoc_core.specs.Loaded.{field_of}
use Rattle.vtoc_layout.specs.Layout.{layout_of}
use Rattle.vtoc_layout.proofs.Apart.{all_from}
use Rattle.vtoc_layout.proofs.Distinct.{at_first, first_or_later, from_flat, from_map, in_below, in_none}
use Rattle.vtoc_layout.proofs.Uses.{in_set_there}
use Rattle.unit_load.specs.declared.state.UnitState.{UnitState}
use Rattle.unit_load.specs.Kept.{IsFromSlots, IsKept}
use Rattle.unit_load.proofs.Runs.{said_slot}
use Rattle.job_turns.specs.job_copies.unit_steps.Plans.{IsLoadedAt, extents_in, tracks_in}
use Rattle.job_turns.specs.job_copies.step_plans.Plans.{IsSound}
use Rattle.job_turns.specs.job_copies.unit_steps.render_laws.Rendered.{WasLoaded}
use Rattle.job_turns.proofs.job_copies.job_select.Counts.{row_tracks_few}
use Rattle.job_turns.proofs.job_copies.step_plans.LoadedRows.{sound_row}
use Rattle.job_turns.proofs.job_copies.unit_change.LoadedTracks.{four}
use Rattle.job_turns.proofs.job_copies.unit_steps.Blocks.{few, from_slots, home_short}
use Rattle.job_turns.proofs.job_acts.Loaded.{are_sound}
use Rattle.job_turns.proofs.job_copies.unit_steps.render_laws.Before.{has_layout, usable_within}
use Rattle.job_turns.proofs.job_copies.vtoc_render.NextCounts.{set_of_row}
use Rattle.job_dumps.specs.Texts.{IsOfRow}

-- ---- the bytes

take_over : (xs ys : List ℕ) (k n : ℕ) → length xs ≡ k → take (k + n) (xs ++ ys) ≡ xs ++ take n ys
take_over xs ys k n long = subst (λ (m : ℕ). take (m + n) (xs ++ ys) ≡ xs ++ take n ys) long (take-append-add xs ys n)

-- zeros over the count and over all from the extents on leave the fields
pub places_gone : (f1 first whole zeros : List ℕ) → length f1 ≡ 140 → first ≡ take 59 f1 ++ (0 ∷ drop 60 f1) → whole ≡ take 105 first ++ (zeros ++ drop 140 first) → whole ≡ fields_of_1 f1 ++ zeros
places_gone f1 first whole zeros long one two =
    let front : length (take 59 f1) ≡ 59 = length-take-le 59 f1 (omega (arith, long)) in
    let kept : take 105 first ≡ fields_of_1 f1 = ap (take 105) one ∙ take_over (take 59 f1) (0 ∷ drop 60 f1) 59 46 front in
    let all : length first ≤ 140 = omega (arith, ap length one, length-append (take 59 f1) (0 ∷ drop 60 f1), front, length-drop 60 f1, long) in
    let none : drop 140 first ≡ [] = drop_all 140 first all in
    two ∙ (λ i. kept i ++ (zeros ++ none i)) ∙ ap (λ (l : List ℕ). fields_of_1 f1 ++ l) (append-nil zeros)

only_f1 : (b p q r z : Bool) → is_f1 (if b then F1 else if p then F3 else if q then F4 else if r then F5 else if z then Free else Broken) ≡ true → b ≡ true
only_f1 true p q r z e = refl
only_f1 false true q r z e = e
only_f1 false false true r z e = e
only_f1 false false false true z e = e
only_f1 false false false false true e = e
only_f1 false false false false false e = e

code_of_1 : (bytes : List ℕ) → format_of bytes ≡ F1 → get_or bytes 44 0 ≡ 0xF1
code_of_1 bytes is =
    let code = get_or bytes 44 0 in
    eqb-true code 0xF1 (only_f1 (code == 0xF1) ((code == 0xF3) && is_filled 4 0x03 bytes) ((code == 0xF4) && is_filled 44 0x04 bytes) ((code == 0xF5) && is_filled 4 0x05 bytes) (is_filled 140 0 bytes) (ap is_f1 is))

-- its fields have 105 bytes
pub fields_long : (f1 : List ℕ) → length f1 ≡ 140 → length (fields_of_1 f1) ≡ 105
fields_long f1 long =
    omega (arith, length-append (take 59 f1) (0 ∷ take 45 (drop 60 f1)), length-take-le 59 f1 (omega (arith, long)), length-take-le 45 (drop 60 f1) (omega (arith, long, length-drop 60 f1)))

-- a format 1 without places is one that may stand in a dump
placeless : (f1 part : List ℕ) → length f1 ≡ 140 → format_of f1 ≡ F1 → part ≡ fields_of_1 f1 ++ replicate 35 0 → IsPlaceless part
placeless f1 part long format is = subst IsPlaceless (sym is) (record {
  long = omega (arith, length-append fields zeros, whole);
  format = get_or_append_left fields zeros 0 44 (omega (arith, whole)) ∙ field_ahead f1 long 44 (omega arith) ∙ code_of_1 f1 format;
  no_count = get_or_append_left fields zeros 0 59 (omega (arith, whole)) ∙ count;
  no_extents = drop_at fields zeros 105 whole;
})
  where
    fields : List ℕ
    fields = fields_of_1 f1

    zeros : List ℕ
    zeros = replicate 35 0

    whole : length fields ≡ 105
    whole = fields_long f1 long

    count : get_or fields 59 0 ≡ 0
    count = subst (λ (n : ℕ). get_or fields n 0 ≡ 0) (length-take-le 59 f1 (omega (arith, long))) (last (take 59 f1) (take 45 (drop 60 f1)))
      where
        last : (xs ys : List ℕ) → get_or (xs ++ (0 ∷ ys)) (length xs) 0 ≡ 0
        last [] ys = refl
        last (x ∷ xs) ys = last xs ys

-- ---- records have 140 bytes

placed_long : (track number : ℕ) (dscbs : List (List ℕ)) → All (λ bytes. length bytes ≡ 140) dscbs → (placed : Placed) → Contains (placed_from track number dscbs) placed → length placed.bytes ≡ 140
placed_long track number [] long placed there = absurd (in_none placed there)
placed_long track number (bytes ∷ dscbs) long placed there =
    elim (first_or_later (record { place = record { track = track; record_number = number }; bytes = bytes }) placed (placed_from track (number + 1) dscbs) there) [
      | inl here ↦ subst (λ (p : Placed). length p.bytes ≡ 140) here (long 0 [] (omega arith))
      | inr later ↦ placed_long track (number + 1) dscbs (λ k d less. long (suc k) d (omega (arith, less))) placed later
    ]

each_long : (first : ℕ) (tracks : List (Option (List (List ℕ))))
    → ((k : ℕ) (dscbs : List (List ℕ)) → k < length tracks → slice_index_or tracks k None ≡ Some dscbs → All (λ bytes. length bytes ≡ 140) dscbs)
    → (placed : Placed) → Contains (placed_in first tracks) placed → length placed.bytes ≡ 140
each_long first [] each placed there = absurd (in_none placed there)
each_long first (None ∷ tracks) each placed there = each_long (first + 1) tracks (λ k dscbs less at. each (suc k) dscbs (omega (arith, less)) at) placed there
each_long first (Some found ∷ tracks) each placed there =
    elim (Contains-append_cases (placed_from first 1 found) (placed_in (first + 1) tracks) placed there) [
      | inl here ↦ placed_long first 1 found (each 0 found (omega arith) refl) placed here
      | inr later ↦ each_long (first + 1) tracks (λ k dscbs less at. each (suc k) dscbs (omega (arith, less)) at) placed later
    ]

track_long : (heads track : ℕ) (slot : List ℕ) (dscbs : List (List ℕ)) → IsVtocTrack heads track slot dscbs → All (λ bytes. length bytes ≡ 140) dscbs
track_long heads track slot dscbs is =
    subst (λ (l : List (List ℕ)). All (λ bytes. length bytes ≡ 140) l) (sym is.dscbs_are)
    (All-map (λ bytes. length bytes ≡ 140) dscb_of is.text.recs
    (All-weaker IsDscbRecord (λ rec. length (dscb_of rec) ≡ 140) (λ rec shaped. omega (arith, shaped.0, shaped.1, length-append rec.key rec.body)) is.text.recs is.shaped))

records_long : (heads : ℕ) (slots : Slots) (vtoc : Vtoc) → IsReading heads slots vtoc.run vtoc.tracks → (placed : Placed) → Contains (records_of vtoc) placed → length placed.bytes ≡ 140
records_long heads slots vtoc reading placed there =
    each_long vtoc.run.first vtoc.tracks
    (λ k dscbs less at.
    track_long heads (vtoc.run.first + k) (slots (vtoc.run.first + k)) dscbs
    (subst (λ (found : Option (List (List ℕ))). IsTrackReading heads (vtoc.run.first + k) (slots (vtoc.run.first + k)) found) at (reading.each k (omega (arith, less, reading.whole)))))
    placed there

-- ---- a loaded row

below_end : (heads usable blocks : ℕ) (field : ExtentField) (extent : models.Extent) (place track : ℕ) → extent_in heads field ≡ extent → extent.run.first + place ≡ track → place < extent.run.len
    → is_run heads usable field ≡ true → usable ≤ blocks → track < blocks
below_end heads usable blocks field extent place track same at less is within =
    let first : track_at heads field.first ≡ extent.run.first = ap (λ (e : models.Extent). e.run.first) same in
    let len : track_at heads field.last + 1 - track_at heads field.first ≡ extent.run.len = ap (λ (e : models.Extent). e.run.len) same in
    let last : track_at heads field.last < usable =
    ltb-true (track_at heads field.last) usable
    (and_parts (nat_lt field.first.head heads && nat_lt field.last.head heads && nat_le (track_at heads field.first) (track_at heads field.last)) (nat_lt (track_at heads field.last) usable) is).1 in
    by (track_at heads field.first) (track_at heads field.last) extent.run.first extent.run.len first len at less last
  where
    by : (a b first len : ℕ) → a ≡ first → b + 1 - a ≡ len → first + place ≡ track → place < len → b < usable → track < blocks
    by a b first len p q at less last = omega (arith, p, q, at, less, last, within)

module _ {head : List ℕ} {blocks : ℕ} {volume : Volume} {slots : List ℕ} (from : IsFromSlots false head blocks volume slots) where
  was : WasLoaded from.image from.label from.unit false slots volume from.loaded.vtoc (four from.loaded (few from) (home_short from))
  was = from_slots from

  abbrev vtoc : Vtoc
  vtoc = from.loaded.vtoc

  -- its format 1 has 140 bytes
  pub row_long : (row : Row) → Contains volume.rows row → length row.f1 ≡ 140
  row_long row there =
      let set = set_of_row was row there in
      let used = in_set_there vtoc (layout_of vtoc (four from.loaded (few from) (home_short from))) was.sized (has_layout was) set.set set.set.one set.there (at_first set.set.one set.set.threes) in
      let long = records_long (heads_of from.image.device) from.unit vtoc from.loaded.stands.stands.reading set.set.one used in
      subst (λ (bytes : List ℕ). length bytes ≡ 140) (ap (λ (d : DirectoryRow). d.format_1) set.same) long

  -- the unit has no more blocks than a head may say
  pub few_blocks : blocks ≤ 65535
  few_blocks = omega (arith, few from, from.image_is.tracks_are)

  usable_blocks : volume.usable ≤ blocks
  usable_blocks = omega (arith, usable_within was, from.loaded.stands.stands.limit_is, from.image_is.tracks_are)

  -- each track of a row is there
  pub row_below : (row : Row) → Contains volume.rows row → All (λ track. track < blocks) (tracks_in volume row)
  row_below row there = all_from (λ track. track < blocks) (tracks_in volume row) below
    where
      heads : ℕ
      heads = heads_of volume.device

      below : (track : ℕ) → Contains (tracks_in volume row) track → track < blocks
      below track held =
          let extent = from_flat (λ (extent : models.Extent). models.tracks_in extent.run) (extents_in volume row) track held in
          let field = from_map (λ (field : Field). extent_in heads (field_of field)) row.extents extent.0 extent.1 in
          let place = from_map (λ (place : ℕ). extent.0.run.first + place) (numbers_below extent.0.run.len) track extent.2 in
          let ranges = All-contains (λ (f : Field). is_run heads volume.usable (field_of f) ≡ true) row.extents field.0 (sound_row volume (head, blocks, slots, from) row there).ranges field.1 in
          below_end heads volume.usable blocks (field_of field.0) extent.0 place.0 track field.2 place.2 (in_below extent.0.run.len place.0 place.1) ranges usable_blocks

  -- the size of its blocks is that of its device's slots
  pub row_slot : (shape : Shape) (unit : ℕ) → shape.block_size unit ≡ size_in head → shape.block_size unit ≡ slot_of volume.device
  row_slot shape unit said = said ∙ said_slot head from.image.device from.image_is.stands.slot ∙ ap slot_of (sym from.loaded.volume.device_is)

  -- a part of a row may begin on the outputs of a dump
  pub part_begins : (row : Row) → Contains volume.rows row → (part : DumpPart) → IsOfRow volume row part → IsPart volume.device (begun part.f1 part.tracks part.kind)
  part_begins row there part is =
      let sound : IsSound volume = (head, blocks, slots, from) in
      let most : length (tracks_in volume row) ≤ 65535 = row_tracks_few volume sound row there in
      record {
        placeless = placeless row.f1 part.f1 (row_long row there) (sound_row volume sound row there).format is.f1_is;
        few = omega (arith, is.tracks_are, most);
        kind = elim is.kind_is [
          | inl cylinders ↦ inr cylinders.1
          | inr tracks ↦ inl tracks.1
        ];
        texts = All-nil (StandsOn volume.device);
        within = omega arith;
      }

-- a volume that was loaded is sound
pub sound_of : (shape : Shape) (units : List UnitState) → ((unit : ℕ) (state : UnitState) → slice_get units unit ≡ Some state
    → (slots : List ℕ) × IsKept false (shape.head unit) (shape.blocks unit) state slots) → (unit : ℕ) (volume : Volume) → IsLoadedAt units unit volume → IsSound volume
sound_of shape units kept unit volume loaded = are_sound shape.head shape.blocks units kept unit volume loaded
