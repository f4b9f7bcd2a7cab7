-- A volume that was loaded from slots may be changed on them.
use Rattle.std.proofs.Common.{◌≡◌, ◌≢◌, ℕ, zero, suc, ◌+◌, ◌-◌, ◌*◌, ◌<◌, ◌≤◌, ◌==◌, List, [], ◌∷◌, ◌++◌, length, map, take, drop, find, Bool, true, false, cond, All, Contains, Option, Some, None, refl, sym, ap, subst, ◌∙◌, arith}
use Rattle.std.specs.Prelude.{nat_le, nat_lt, slice_index_or}
use Rattle.std.proofs.lemmas.Bool.{and_parts, leb-true, ltb-true, eqb-true}
use Rattle.std.proofs.lemmas.List.{length-take, length-drop}
use Rattle.std.proofs.lemmas.List.Elements.{All-get_or}
use Rattle.ckd_image.specs.declared.device.Device.{Device}
use Rattle.ckd_image.specs.declared.device.Device.TheVariants.{D3390, D3380, D3350}
use Rattle.ckd_image.specs.declared.head.Head.{Head}
use Rattle.ckd_image.specs.declared.track.Rec.{Rec}
use Rattle.ckd_image.specs.declared.track.Track.{Track}
use Rattle.ckd_image.specs.declared.track.TrackAt.{TrackAt}
use Rattle.ckd_image.specs.Address.{address_of}
use Rattle.ckd_image.specs.Device.{heads_of, slot_of}
use Rattle.ckd_image.specs.Track.{IsTrackText}
use Rattle.free_map.specs.declared.run.Run.{Run}
use Rattle.vol_label.specs.declared.label.Label.{Label}
use Rattle.volume_model.specs.declared.place.Placed.{Placed}
use Rattle.volume_model.specs.declared.place.Vtoc.{Vtoc}
use Rattle.volume_model.specs.Check.{records_of, bad_tracks, bad_dscbs, bad_names, bad_pointers, bad_fives, bad_ranges, bad_overlaps, bad_free}
use Rattle.volume_model.specs.Directory.{placed_from, placed_in}
use Rattle.volume_model.specs.Dscbs.{extent_at}
use Rattle.volume_model.specs.Space.{end_of, has_track, run_of, track_at}
use Rattle.volume_model.specs.Sound.{Slots, dscb_of, IsTrackReading, IsVtoc, limit_of}
use Rattle.vtoc_check.specs.Slots.{AreSlotsOf}
use Rattle.vtoc_check.proofs.Overlapping.{run_facts}
use Rattle.vtoc_core.specs.declared.volume.Volume.{Volume}
use Rattle.vtoc_core.proofs.Placed.{NumberedFrom, numbered_from}
use Rattle.vtoc_layout.proofs.Distinct.{in_later, in_front, in_back}
use Rattle.vtoc_load.specs.LoadedVtoc.{IsLoadedVtoc}
use Rattle.volume_model.proofs.Addresses.{address_fits, one_address, one_text_anywhere}
use Rattle.vtoc_render.specs.Loads.{LoadsFrom, LoadedVolumesLoadFrom}
use Rattle.ckd_image.proofs.Lists.{left_nil}
use Rattle.ckd_image.proofs.Devices.{is_address, short_slot}
use Rattle.render_laws.proofs.Before.{tracks_are}

-- ---- a record among those of a VTOC

abbrev at_place : ℕ → ℕ → List ℕ → Placed
at_place track n bytes = record { place = record { track = track; record_number = n }; bytes = bytes }

-- the record with a number, on its track
pub on_track : (track n r : ℕ) (recs : List Rec) (rec : Rec) → NumberedFrom n recs → find (λ x. x.r == r) recs ≡ Some rec
    → Contains (placed_from track n (map dscb_of recs)) (at_place track r (dscb_of rec))
on_track track n r [] rec numbered found = absurd cc
on_track track n r (x ∷ recs) rec numbered found = by (x.r == r) refl found (on_track track (n + 1) r recs rec numbered.1)
  where
    placed : List Placed
    placed = placed_from track (n + 1) (map dscb_of recs)

    by : (b : Bool) → (x.r == r) ≡ b → cond b (Some x) (find (λ x. x.r == r) recs) ≡ Some rec
        → (find (λ x. x.r == r) recs ≡ Some rec → Contains placed (at_place track r (dscb_of rec))) → Contains (at_place track n (dscb_of x) ∷ placed) (at_place track r (dscb_of rec))
    by true here e later =
        let number : n ≡ r = sym numbered.0 ∙ eqb-true x.r r here in
        let same : x ≡ rec = cc in
        (0, omega arith, λ i. at_place track (number i) (dscb_of (same i)))
    by false other e later = in_later (at_place track n (dscb_of x)) (at_place track r (dscb_of rec)) placed (later e)

-- a record of a track, among those of all
pub in_tracks : (first k : ℕ) (tracks : List (Option (List (List ℕ)))) (dscbs : List (List ℕ)) (placed : Placed) → slice_index_or tracks k None ≡ Some dscbs
    → Contains (placed_from (first + k) 1 dscbs) placed → Contains (placed_in first tracks) placed
in_tracks first k [] dscbs placed e c = absurd (none e)
  where
    none : None ≡ Some dscbs → ⊥
    none e = cc
in_tracks first zero (None ∷ tracks) dscbs placed e c = absurd cc
in_tracks first zero (Some here ∷ tracks) dscbs placed e c =
    let same : here ≡ dscbs = cc in
    let track : first + 0 ≡ first = omega arith in
    in_front (placed_from first 1 here) (placed_in (first + 1) tracks) placed
    (subst (λ (dscbs : List (List ℕ)). Contains (placed_from first 1 dscbs) placed) (sym same) (subst (λ (n : ℕ). Contains (placed_from n 1 dscbs) placed) track c))
in_tracks first (suc k) (None ∷ tracks) dscbs placed e c =
    let track : first + suc k ≡ first + 1 + k = omega arith in
    in_tracks (first + 1) k tracks dscbs placed e (subst (λ (n : ℕ). Contains (placed_from n 1 dscbs) placed) track c)
in_tracks first (suc k) (Some here ∷ tracks) dscbs placed e c =
    let track : first + suc k ≡ first + 1 + k = omega arith in
    in_back (placed_from first 1 here) (placed_in (first + 1) tracks) placed
    (in_tracks (first + 1) k tracks dscbs placed e (subst (λ (n : ℕ). Contains (placed_from n 1 dscbs) placed) track c))

-- ---- the slots

slot_long : (device : Device) (k len : ℕ) (slots : List ℕ) → k < len → length slots ≡ len * slot_of device → length (take (slot_of device) (drop (k * slot_of device) slots)) ≡ slot_of device
slot_long D3390 k len slots less long = omega (arith, length-take (slot_of D3390) (drop (k * slot_of D3390) slots), length-drop (k * slot_of D3390) slots, less, long)
slot_long D3380 k len slots less long = omega (arith, length-take (slot_of D3380) (drop (k * slot_of D3380) slots), length-drop (k * slot_of D3380) slots, less, long)
slot_long D3350 k len slots less long = omega (arith, length-take (slot_of D3350) (drop (k * slot_of D3350) slots), length-drop (k * slot_of D3350) slots, less, long)

module _ (head : Head) (label : Label) (unit : Slots) (sliding : Bool) (slots : List ℕ) (volume : Volume) (small : head.tracks ≤ 65535) (loaded : IsLoadedVtoc head label unit sliding volume)
    (slots_are : AreSlotsOf volume.vtoc (slot_of head.device) slots unit) (whole : length slots ≡ volume.vtoc.len * slot_of head.device) where
  abbrev vtoc : Vtoc
  vtoc = loaded.vtoc

  abbrev is : IsVtoc head unit label.vtoc sliding vtoc
  is = loaded.stands.stands

  abbrev heads : ℕ
  heads = heads_of head.device

  abbrev home : ℕ
  home = track_at heads label.vtoc.at

  of_run : AreSlotsOf vtoc.run (slot_of head.device) slots unit
  of_run = subst (λ (run : Run). AreSlotsOf run (slot_of head.device) slots unit) loaded.volume.vtoc_is slots_are

  long : (k : ℕ) → k < vtoc.run.len → length (unit (vtoc.run.first + k)) ≡ slot_of head.device
  long k less =
      let len : length slots ≡ vtoc.run.len * slot_of head.device = whole ∙ ap (λ (run : Run). run.len * slot_of head.device) loaded.volume.vtoc_is in
      ap length (of_run k less) ∙ ap (λ (n : ℕ). length (take (slot_of head.device) (drop (n * slot_of head.device) slots))) (back vtoc.run.first k) ∙ slot_long head.device k vtoc.run.len slots less len
    where
      back : (a b : ℕ) → a + b - a ≡ b
      back a b = omega arith

  -- ---- the track of the format 4

  home_in : (vtoc.run.first ≤ home) × (home < vtoc.run.first + vtoc.run.len)
  home_in =
      let holds : has_track home vtoc.run ≡ true = ap (has_track home) is.run_is ∙ is.extent.holds in
      let parts = and_parts (nat_le vtoc.run.first home) (nat_lt home (end_of vtoc.run)) holds in
      (leb-true vtoc.run.first home parts.0, ltb-true home (end_of vtoc.run) parts.1)

  home_small : home ≤ 65535
  home_small =
      let facts = run_facts heads (limit_of head is.bytes) (extent_at is.bytes 105) is.extent.run in
      let same : end_of vtoc.run ≡ end_of (run_of heads (extent_at is.bytes 105)) = ap end_of is.run_is in
      omega (arith, same, facts.0, small, home_in.1)

  all_read : All (λ dscbs. dscbs ≢ None) vtoc.tracks
  all_read =
      let one = bad_tracks vtoc.run.first vtoc.tracks in
      let two = one ++ bad_dscbs vtoc in
      let three = two ++ bad_names vtoc in
      let four = three ++ bad_pointers vtoc in
      let five = four ++ bad_fives vtoc in
      let six = five ++ bad_ranges vtoc in
      let seven = six ++ bad_overlaps vtoc in
      tracks_are vtoc.run.first vtoc.tracks
      (left_nil one (bad_dscbs vtoc) (left_nil two (bad_names vtoc) (left_nil three (bad_pointers vtoc) (left_nil four (bad_fives vtoc)
      (left_nil five (bad_ranges vtoc) (left_nil six (bad_overlaps vtoc) (left_nil seven (bad_free vtoc) loaded.sound)))))))

  -- its record among those that are read of its track
  read_there : (k : ℕ) (dscbs : Option (List (List ℕ))) → slice_index_or vtoc.tracks k None ≡ dscbs → dscbs ≢ None → vtoc.run.first + k ≡ home → k < vtoc.run.len
      → IsTrackReading heads home (unit home) dscbs → Contains (records_of vtoc) (at_place home label.vtoc.r (dscb_of is.format_4.rec))
  read_there k None e some at less reads = absurd (some refl)
  read_there k (Some dscbs) e some at less reads =
      let same : label.vtoc.at ≡ address_of heads home =
      one_address label.vtoc.at (address_of heads home) (unit home) is.format_4.text reads.text (address_fits head.device label.vtoc.at home_small) (is_address head.device home home_small)
      is.format_4.stands reads.stands in
      let size : length (unit home) ≡ slot_of head.device = subst (λ (track : ℕ). length (unit track) ≡ slot_of head.device) at (long k less) in
      let text : is.format_4.text ≡ reads.text =
      one_text_anywhere (address_of heads home) (unit home) is.format_4.text reads.text (omega (arith, size, short_slot head.device))
      (subst (λ (at : TrackAt). IsTrackText at (unit home) is.format_4.text) same is.format_4.stands) reads.stands in
      let found : find (λ x. x.r == label.vtoc.r) reads.text.recs ≡ Some is.format_4.rec = ap (λ (t : Track). find (λ x. x.r == label.vtoc.r) t.recs) (sym text) ∙ is.format_4.numbered in
      let placed = at_place home label.vtoc.r (dscb_of is.format_4.rec) in
      let here : Contains (placed_from home 1 dscbs) placed =
      subst (λ (dscbs : List (List ℕ)). Contains (placed_from home 1 dscbs) placed) (sym reads.dscbs_are)
      (on_track home 1 label.vtoc.r reads.text.recs is.format_4.rec (numbered_from 1 reads.text.recs reads.numbered) found) in
      in_tracks vtoc.run.first k vtoc.tracks dscbs placed e (subst (λ (track : ℕ). Contains (placed_from track 1 dscbs) placed) (sym at) here)

  four_there : Contains (records_of vtoc) (record { place = vtoc.format_4; bytes = loaded.four })
  four_there =
      let k = home - vtoc.run.first in
      let at : vtoc.run.first + k ≡ home = omega (arith, home_in.0) in
      let less : k < vtoc.run.len = omega (arith, home_in.0, home_in.1) in
      let dscbs = slice_index_or vtoc.tracks k None in
      let some : dscbs ≢ None = All-get_or (λ dscbs. dscbs ≢ None) vtoc.tracks k None (omega (arith, less, is.reading.whole)) all_read in
      let reads : IsTrackReading heads home (unit home) dscbs = subst (λ (track : ℕ). IsTrackReading heads track (unit track) dscbs) at (is.reading.each k less) in
      let bytes : dscb_of is.format_4.rec ≡ loaded.four = sym is.format_4.bytes_are ∙ sym loaded.stands.four_is in
      let same : at_place home label.vtoc.r (dscb_of is.format_4.rec) ≡ record { place = vtoc.format_4; bytes = loaded.four } =
      (λ i. record { place = sym is.place_is i; bytes = bytes i }) in
      subst (λ (placed : Placed). Contains (records_of vtoc) placed) same (read_there k dscbs refl some at less reads)

  loads_from : LoadsFrom volume slots
  loads_from = record {
    head = head;
    label = label;
    unit = unit;
    sliding = sliding;
    vtoc = vtoc;
    four = record { place = vtoc.format_4; bytes = loaded.four };
    was =
        record {
          small = small;
          stands = loaded.stands;
          sized = loaded.sized;
          sound = loaded.sound;
          volume_is = loaded.volume;
          slots_are = of_run;
          long = long;
          four_there = four_there;
          four_at = refl;
        };
    whole = whole ∙ ap (λ (device : Device). volume.vtoc.len * slot_of device) (sym loaded.volume.device_is);
  }

pub loaded_load : LoadedVolumesLoadFrom
loaded_load head label unit sliding slots volume small loaded slots_are whole = loads_from head label unit sliding slots volume small loaded slots_are whole
