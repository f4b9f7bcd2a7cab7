-- The blocks of the volume are a volume that passes its checks, whether or not a slide is open on it.
use Rattle.std.proofs.Common.{◌≡◌, inl, inr, ℕ, zero, suc, ◌+◌, ◌<◌, ◌≤◌, List, [], ◌∷◌, length, map, Bool, true, refl, sym, ap, ◌∙◌, arith}
use Rattle.std.specs.Prelude.{IsTrue, ◌-◌, ◌==◌, ◌&&◌, not, nat_le, nat_lt, false, if◌then◌else◌, Some, None, slice_index, slice_index_or}
use Rattle.std.specs.List.{AllByRecursion}
use Rattle.std.proofs.lemmas.Bool.Decides.{nat_tests}
use Rattle.std.proofs.lemmas.List.Sorted.{IsPermutation-refl}
use Rattle.std.proofs.lemmas.List.Elements.{All-nil, All-cons, recursion_from_All}
use Rattle.ckd_image.specs.declared.device.Device.TheVariants.{D3390}
use Rattle.ckd_image.specs.declared.head.Head.{Head}
use Rattle.ckd_image.specs.declared.track.Rec.{Rec}
use Rattle.ckd_image.specs.Address.{address_of}
use Rattle.ckd_image.specs.Head.{IsHead}
use Rattle.ckd_image.specs.Track.{IsRecord, IsTrackText}
use Rattle.free_map.specs.declared.run.Run.{Run}
use Rattle.free_map.specs.Runs.{InRuns, AreMaximalRuns}
use Rattle.vol_label.specs.declared.label.Label.{Label}
use Rattle.vol_label.specs.Label.{label_key, new_label, IsLabel}
use Rattle.vol_label.specs.Serial.{IsSerialByte, IsSerial}
use Rattle.volume_model.specs.declared.place.Vtoc.{Vtoc}
use Rattle.volume_model.specs.Check.{records_of, extents_in, usable_in, breaches_of}
use Rattle.volume_model.specs.Directory.{DirectoryRow, AreInOrder, rows_of}
use Rattle.volume_model.specs.Dscbs.{numbers_below, extents_of}
use Rattle.volume_model.specs.Reads.{IsTextAt, AreTexts, IsOnline}
use Rattle.volume_model.specs.Sound.{is_valid, IsDscbRecord, IsVtocTrack, IsTrackReading, IsVtoc, Volume, IsVolume}
use Rattle.volume_model.specs.Space.{is_free}
use Rattle.volume_model.specs.Unit.{Text, good, bad, tracks_of}
use Rattle.volume_model.proofs.Numbers.{numbers_all}
use Rattle.open_samples.specs.Pool.{format_4, format_5, format_1, free_record, dscb, serial, pointer, label_track, vtoc_track, own_track, padding, slot, slots, volume_head, set_at, volume_with}

-- ---- head and label

abbrev pub head_is : Head
head_is = record { device = D3390; tracks = 60 }

pub head_stands : IsHead volume_head 60 D3390
head_stands = record { magic = (_, refl); named = refl; heads = refl; slot = refl; unsplit = inl refl; cylinders = (omega arith, omega arith, refl) }

serial_bytes : (k : ℕ) → k < 6 → IsSerialByte (slice_index serial.text k)
serial_bytes zero less = (86, refl, inl (omega arith, omega arith))
serial_bytes (suc zero) less = (79, refl, inl (omega arith, omega arith))
serial_bytes (suc (suc zero)) less = (76, refl, inl (omega arith, omega arith))
serial_bytes (suc (suc (suc zero))) less = (48, refl, inr (inl (omega arith, omega arith)))
serial_bytes (suc (suc (suc (suc zero)))) less = (48, refl, inr (inl (omega arith, omega arith)))
serial_bytes (suc (suc (suc (suc (suc zero))))) less = (49, refl, inr (inl (omega arith, omega arith)))
serial_bytes (suc (suc (suc (suc (suc (suc k)))))) less = absurd (omega (arith, less))

pub serial_stands : IsSerial serial.text
serial_stands = (6, record { six = refl; some = omega arith; few = omega arith; characters = serial_bytes; blanks = λ k low high. absurd (omega (arith, low, high)) })

abbrev pub label_is : Label
label_is = record { serial = serial; vtoc = pointer }

pub label_stands : IsLabel head_is label_track.recs label_is
label_stands = record {
  rec = _;
  numbered = refl;
  key = refl;
  long = refl;
  text = record {
    security = 0x40;
    rest = _;
    spelled = refl;
    serial = serial_stands;
    numbers = ((omega arith, omega arith), omega arith);
    inside = (omega arith, omega arith);
  };
}

is_record : (rec : Rec) (key body : ℕ) → 1 ≤ rec.r → rec.r ≤ 255 → length rec.key ≡ key → length rec.body ≡ body → key ≤ 255 → body ≤ 65535 → IsRecord rec
is_record rec key body some few key_is body_is short fits =
    record { numbered = some; number_fits = few; key_fits = omega (arith, key_is, short); body_fits = omega (arith, body_is, fits) }

abbrev label_rec : Rec
label_rec = record { r = 3; key = label_key; body = new_label serial pointer }

label_record : IsRecord label_rec
label_record = is_record label_rec 4 80 (omega arith) (omega arith) refl refl (omega arith) (omega arith)

pub first_stands : IsTrackText (address_of 15 0) (slots 0) label_track
first_stands = record { sound = record { zero = refl; records = All-cons IsRecord label_rec [] label_record (All-nil IsRecord) }; text = (padding 0 label_track, refl) }

-- ---- the VTOC

dscb_record : (number : ℕ) (bytes : List ℕ) → 1 ≤ number → number ≤ 255 → length (dscb number bytes).key ≡ 44 → length (dscb number bytes).body ≡ 96
    → IsRecord (dscb number bytes)
dscb_record number bytes some few key body = is_record (dscb number bytes) 44 96 some few key body (omega arith) (omega arith)

vtoc_text : IsTrackText (address_of 15 1) (slots 1) vtoc_track
vtoc_text = record {
  sound = record {
    zero = refl;
    records =
        All-cons IsRecord (dscb 1 format_4) (dscb 2 format_5 ∷ dscb 3 format_1 ∷ dscb 4 free_record ∷ []) (dscb_record 1 format_4 (omega arith) (omega arith) refl refl)
        (All-cons IsRecord (dscb 2 format_5) (dscb 3 format_1 ∷ dscb 4 free_record ∷ []) (dscb_record 2 format_5 (omega arith) (omega arith) refl refl)
        (All-cons IsRecord (dscb 3 format_1) (dscb 4 free_record ∷ []) (dscb_record 3 format_1 (omega arith) (omega arith) refl refl)
        (All-cons IsRecord (dscb 4 free_record) [] (dscb_record 4 free_record (omega arith) (omega arith) refl refl) (All-nil IsRecord))));
  };
  text = (padding 1 vtoc_track, refl);
}

-- format 5 counts as valid while a slide is open
abbrev pub vtoc : Bool → Vtoc
vtoc sliding = record {
  heads = 15;
  limit = 60;
  format_4 = record { track = 1; record_number = 1 };
  valid = sliding;
  alternates = 0;
  run = record { first = 1; len = 1 };
  tracks = Some (format_4 ∷ format_5 ∷ format_1 ∷ free_record ∷ []) ∷ [];
}

four_numbers : (k : ℕ) → k < 4 → slice_index (map (λ (r : Rec). r.r) vtoc_track.recs) k ≡ k + 1
four_numbers zero less = refl
four_numbers (suc zero) less = refl
four_numbers (suc (suc zero)) less = refl
four_numbers (suc (suc (suc zero))) less = refl
four_numbers (suc (suc (suc (suc k)))) less = absurd (omega (arith, less))

track_reads : IsVtocTrack 15 1 (slots 1) (format_4 ∷ format_5 ∷ format_1 ∷ free_record ∷ [])
track_reads = record {
  text = vtoc_track;
  stands = vtoc_text;
  some = omega arith;
  numbered = four_numbers;
  shaped =
      All-cons IsDscbRecord (dscb 1 format_4) (dscb 2 format_5 ∷ dscb 3 format_1 ∷ dscb 4 free_record ∷ []) (refl, refl)
      (All-cons IsDscbRecord (dscb 2 format_5) (dscb 3 format_1 ∷ dscb 4 free_record ∷ []) (refl, refl)
      (All-cons IsDscbRecord (dscb 3 format_1) (dscb 4 free_record ∷ []) (refl, refl)
      (All-cons IsDscbRecord (dscb 4 free_record) [] (refl, refl) (All-nil IsDscbRecord))));
  dscbs_are = refl;
}

valid_as : (sliding : Bool) → sliding ≡ is_valid sliding format_4
valid_as true = refl
valid_as false = refl

pub vtoc_stands : (sliding : Bool) → IsVtoc head_is slots pointer sliding (vtoc sliding)
vtoc_stands sliding = record {
  bytes = format_4;
  format_4 = record { text = vtoc_track; rec = dscb 1 format_4; stands = vtoc_text; numbered = refl; shaped = (refl, refl); bytes_are = refl; format = refl };
  geometry = (refl, λ none. absurd (omega (arith, none)));
  extent = record { there = λ none. absurd (omega (arith, none)); run = refl; not_track_0 = omega arith; holds = refl };
  heads_are = refl;
  limit_is = refl;
  place_is = refl;
  valid_is = valid_as sliding;
  alternates_are = refl;
  run_is = refl;
  reading = record { whole = refl; each = one_track };
}
  where
    one_track : (k : ℕ) → k < 1 → IsTrackReading 15 (1 + k) (slots (1 + k)) (slice_index_or (Some (format_4 ∷ format_5 ∷ format_1 ∷ free_record ∷ []) ∷ []) k None)
    one_track zero less = track_reads
    one_track (suc k) less = absurd (omega (arith, less))

keeps_the_rules : (sliding : Bool) → breaches_of (vtoc sliding) ≡ []
keeps_the_rules true = refl
keeps_the_rules false = refl

abbrev row : DirectoryRow
row = record { format_1 = format_1; extents = extents_of format_1; threes = 0 }

-- ---- free tracks

abbrev free_runs : List Run
free_runs = record { first = 2; len = 28 } ∷ []

abbrev IsFreeThere : ℕ → Type 0
IsFreeThere track = IsTrue (is_free 60 (record { first = 1; len = 1 }) (record { first = 30; len = 30 } ∷ []) track)

free_to : (track : ℕ) → IsFreeThere track → InRuns free_runs track
free_to track free = grind (arith, nat_tests)

free_from : (track : ℕ) → InRuns free_runs track → IsFreeThere track
free_from track held = grind (arith, nat_tests)

free_there : AreMaximalRuns IsFreeThere free_runs
free_there = record { apart = (omega arith, omega arith, tt); exact = λ track. (free_to track, free_from track) }

free_stand : (sliding : Bool) → AreMaximalRuns (λ track. IsTrue (is_free (usable_in (vtoc sliding)) (vtoc sliding).run (extents_in (vtoc sliding)) track)) free_runs
free_stand true = free_there
free_stand false = free_there

usable_is : (sliding : Bool) → 60 ≡ usable_in (vtoc sliding)
usable_is true = refl
usable_is false = refl

-- ---- the volume

abbrev found : Volume
found = record { device = D3390; label = label_is; usable = 60; free = free_runs; rows = row ∷ [] }

rows_in_order : (sliding : Bool) → AreInOrder (rows_of 15 (records_of (vtoc sliding))) (row ∷ [])
rows_in_order sliding = record { same = IsPermutation-refl (row ∷ []); order = λ k d low less. absurd (omega (arith, less)) }

volume_stands : (sliding : Bool) → IsVolume volume_head 60 slots sliding found
volume_stands sliding = record {
  image = head_is;
  track_0 = label_track;
  vtoc = vtoc sliding;
  head_stands = head_stands;
  tracks_are = refl;
  device_is = refl;
  track_0_stands = first_stands;
  label_stands = label_stands;
  vtoc_stands = vtoc_stands sliding;
  sound = keeps_the_rules sliding;
  usable_is = usable_is sliding;
  free_are = free_stand sliding;
  rows_are = rows_in_order sliding;
}

-- with texts for the tracks of A.B
pub online_stands : (sliding : Bool) (place : ℕ → ℕ) (texts : List Text) → AreTexts 15 place slots (tracks_of (set_at 30 texts).extents) texts
    → IsOnline sliding place volume_head 60 slots (volume_with (set_at 30 texts) (not sliding))
unfolding volume_stands vtoc_stands
online_stands sliding place texts are = record {
  found = found;
  stands = volume_stands sliding;
  serial_is = refl;
  device_is = refl;
  usable_is = refl;
  vtoc_is = refl;
  first_is = refl;
  four_is = refl;
  sets_are = (record { name_is = refl; fields_are = refl; extents_are = refl; texts_are = are; threes_are = refl }, tt);
  repair_is = refl;
  indexed_is = refl;
  dscbs_are = refl;
  fives_are = refl;
  tail_is = refl;
}

-- ---- texts

texts_at : (place : ℕ → ℕ) (text : ℕ → Text) (numbers : List ℕ)
    → AllByRecursion (λ number. IsTextAt 15 (place (30 + number)) (slots (place (30 + number))) (text number)) numbers
    → AreTexts 15 place slots (map (λ number. 30 + number) numbers) (map text numbers)
texts_at place text [] all = tt
texts_at place text (number ∷ numbers) all = (all.0, texts_at place text numbers all.1)

-- those of A.B are these, where each stands at its place
pub texts_stand : (place : ℕ → ℕ) (text : ℕ → Text) → ((number : ℕ) → number < 30 → IsTextAt 15 (place (30 + number)) (slots (place (30 + number))) (text number))
    → AreTexts 15 place slots (tracks_of (set_at 30 (map text (numbers_below 30))).extents) (map text (numbers_below 30))
texts_stand place text each =
    let Stands : ℕ → Type 0 = λ number. IsTextAt 15 (place (30 + number)) (slots (place (30 + number))) (text number) in
    texts_at place text (numbers_below 30) (recursion_from_All Stands (numbers_below 30) (numbers_all Stands 30 each))

module _ (track number : ℕ) where
  text_at : slots track ≡ slot track (own_track number) → IsTextAt 15 track (slots track) (good (own_track number))
  text_at is = record { sound = record { zero = refl; records = All-nil IsRecord }; text = (padding track (own_track number), is) }

  -- the first 15 texts stand below, and the others where the VTOC says
  pub first_text : number < 15 → track ≡ 15 + number → IsTextAt 15 track (slots track) (good (own_track number))
  first_text less is =
      let not_0 : (track == 0) ≡ false = grind (arith, nat_tests) in
      let not_1 : (track == 1) ≡ false = grind (arith, nat_tests) in
      let low : (nat_le 15 track && nat_lt track 30) ≡ true = grind (arith, nat_tests) in
      let own : track - 15 ≡ number = omega (arith, is) in
      text_at (λ i.
      if not_0 i then slot 0 label_track
      else if not_1 i then slot 1 vtoc_track
      else if low i then slot track (own_track (own i))
      else if nat_le 45 track then slot track (own_track (track - 30))
      else [])

  pub last_text : 15 ≤ number → track ≡ 30 + number → IsTextAt 15 track (slots track) (good (own_track number))
  last_text some is =
      let not_0 : (track == 0) ≡ false = grind (arith, nat_tests) in
      let not_1 : (track == 1) ≡ false = grind (arith, nat_tests) in
      let high : (nat_le 15 track && nat_lt track 30) ≡ false = grind (arith, nat_tests) in
      let behind : nat_le 45 track ≡ true = grind (arith, nat_tests) in
      let own : track - 30 ≡ number = omega (arith, is) in
      text_at (λ i.
      if not_0 i then slot 0 label_track
      else if not_1 i then slot 1 vtoc_track
      else if high i then slot track (own_track (track - 15))
      else if behind i then slot track (own_track (own i))
      else [])

  empty_slot : number < 15 → track ≡ 30 + number → slots track ≡ []
  empty_slot less is =
      let not_0 : (track == 0) ≡ false = grind (arith, nat_tests) in
      let not_1 : (track == 1) ≡ false = grind (arith, nat_tests) in
      let high : (nat_le 15 track && nat_lt track 30) ≡ false = grind (arith, nat_tests) in
      let ahead : nat_le 45 track ≡ false = grind (arith, nat_tests) in
      (λ i.
      if not_0 i then slot 0 label_track
      else if not_1 i then slot 1 vtoc_track
      else if high i then slot track (own_track (track - 15))
      else if ahead i then slot track (own_track (track - 30))
      else [])

  -- where they stood the slots say nothing
  pub no_text : number < 15 → track ≡ 30 + number → IsTextAt 15 track (slots track) (bad [])
  no_text less is =
      let empty : slots track ≡ [] = empty_slot less is in
      (sym empty, λ text stands. absurd (omega (arith, ap length (sym empty ∙ stands.text.1))))
