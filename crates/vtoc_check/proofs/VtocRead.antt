-- A VTOC that is read from the slots of its tracks.
use Rattle.std.proofs.Common.{◌≡◌, ℕ, ◌+◌, ◌-◌, ◌*◌, ◌<◌, ◌≤◌, List, length, drop, Bool, true, sym, ap, ◌∙◌, subst, arith, inl, inr, Option, None}
use Rattle.std.specs.Prelude.{nat_le, nat_lt, slice_index_or}
use Rattle.std.proofs.lemmas.Bool.{and_parts, leb-true, ltb-true}
use Rattle.std.proofs.lemmas.List.{length-take}
use Rattle.ckd_image.specs.declared.device.Device.{Device}
use Rattle.ckd_image.specs.declared.device.Device.TheVariants as devices
use Rattle.ckd_image.specs.declared.head.Head.{Head}
use Rattle.ckd_image.specs.declared.track.Cchhr.{Cchhr}
use Rattle.ckd_image.specs.Device.{heads_of, slot_of}
use Rattle.free_map.specs.declared.run.Run.{Run}
use Rattle.volume_model.specs.declared.place.Breach.{Breach}
use Rattle.volume_model.specs.declared.place.Vtoc.{Vtoc}
use Rattle.volume_model.specs.Dscbs.{extent_at}
use Rattle.volume_model.specs.Check.{IsLowestBreach}
use Rattle.volume_model.specs.Space.{end_of, has_track, track_at, run_of}
use Rattle.volume_model.specs.Sound.{Slots, IsTrackReading, IsReading, IsVtoc, IsCheckFault, limit_of}
use Rattle.vtoc_check.specs.Front.{IsFront, IsFrontBreach, IsVtocRun}
use Rattle.vtoc_check.specs.Sized.{IsVtocWith}
use Rattle.vtoc_check.specs.Slots.{slot_in, AreSlotsOf}
use Rattle.vtoc_check.specs.Tracks.{HasTracks}
use Rattle.volume_model.proofs.OneVtoc.{one_format_4}
use Rattle.vtoc_check.proofs.FrontRules.{same_format_4, same_breach}
use Rattle.vtoc_check.proofs.Overlapping.{run_facts}
use Rattle.ckd_image.proofs.Devices.{short_slot}

-- ---- sizes

pub few_heads : (device : Device) → heads_of device ≤ 255
few_heads devices.D3390 = omega arith
few_heads devices.D3380 = omega arith
few_heads devices.D3350 = omega arith

pub some_heads : (device : Device) → 1 ≤ heads_of device
some_heads devices.D3390 = omega arith
some_heads devices.D3380 = omega arith
some_heads devices.D3350 = omega arith

pub slot_short : (device : Device) (run : Run) (bytes : List ℕ) (track : ℕ) → length (slot_in run (slot_of device) bytes track) ≤ 65536
slot_short device run bytes track = omega (arith, length-take (slot_of device) (drop ((track - run.first) * slot_of device) bytes), short_slot device)

run_by_limit : (heads limit tracks : ℕ) (run made : Run) → run ≡ made → end_of made ≤ limit → limit ≤ tracks → end_of run ≤ tracks
run_by_limit heads limit tracks run made e le most = let same : end_of run ≡ end_of made = ap end_of e in omega (arith, same, le, most)

pub run_within : (head : Head) (slots : Slots) (pointer : Cchhr) (run : Run) (h : IsVtocRun head slots pointer run) → end_of run ≤ limit_of head h.bytes
run_within head slots pointer run h =
    let facts = run_facts (heads_of head.device) (limit_of head h.bytes) (extent_at h.bytes 105) h.front.extent.run in
    let same : end_of run ≡ end_of (run_of (heads_of head.device) (extent_at h.bytes 105)) = ap end_of h.run_is in
    omega (arith, same, facts.0)

pub run_has : (head : Head) (slots : Slots) (pointer : Cchhr) (run : Run) → IsVtocRun head slots pointer run → HasTracks run
run_has head slots pointer run h =
    let P : Run → Type 0 = HasTracks in
    subst P (sym h.run_is) (run_facts (heads_of head.device) (limit_of head h.bytes) (extent_at h.bytes 105) h.front.extent.run).1

pub limit_most : (head : Head) (bytes : List ℕ) → limit_of head bytes ≤ head.tracks
limit_most head bytes = omega arith

pub holds_pointer : (head : Head) (slots : Slots) (pointer : Cchhr) (run : Run) → IsVtocRun head slots pointer run → has_track (track_at (heads_of head.device) pointer.at) run ≡ true
holds_pointer head slots pointer run h = ap (has_track (track_at (heads_of head.device) pointer.at)) h.run_is ∙ h.front.extent.holds

-- ---- the run is the one that the format 4 says

pub same_run : (head : Head) (slots : Slots) (pointer : Cchhr) (run : Run) (bytes : List ℕ) → length (slots (track_at (heads_of head.device) pointer.at)) ≤ 65536
    → (h : IsVtocRun head slots pointer run) → IsFront head slots pointer bytes → h.bytes ≡ bytes
same_run head slots pointer run bytes short h front = one_format_4 (heads_of head.device) slots pointer h.bytes bytes short h.front.format_4 front.format_4

-- ---- the slots of a unit

pub at_track : (run : Run) (size : ℕ) (bytes : List ℕ) (unit : Slots) (track : ℕ) → AreSlotsOf run size bytes unit → has_track track run ≡ true → slot_in run size bytes track ≡ unit track
at_track run size bytes unit track h holds =
    let parts = and_parts (nat_le run.first track) (nat_lt track (end_of run)) holds in
    let low : run.first ≤ track = leb-true run.first track parts.0 in
    let high : track < run.first + run.len = ltb-true track (end_of run) parts.1 in
    let there : run.first + (track - run.first) ≡ track = omega (arith, low) in
    let P : ℕ → Type 0 = λ n. slot_in run size bytes n ≡ unit n in
    subst P there (sym (h (track - run.first) (omega (arith, low, high))))

pub same_reading : (heads : ℕ) (run : Run) (size : ℕ) (bytes : List ℕ) (unit : Slots) (tracks : List (Option (List (List ℕ)))) → AreSlotsOf run size bytes unit
    → IsReading heads (slot_in run size bytes) run tracks → IsReading heads unit run tracks
same_reading heads run size bytes unit tracks h r = record {
  whole = r.whole;
  each = λ k lt. let P : List ℕ → Type 0 = λ slot. IsTrackReading heads (run.first + k) slot (slice_index_or tracks k None) in subst P (sym (h k lt)) (r.each k lt);
}

abbrev pub same_vtoc : (head : Head) (run : Run) (size : ℕ) (bytes : List ℕ) (unit : Slots) (pointer : Cchhr) (sliding : Bool) (vtoc : Vtoc) → AreSlotsOf run size bytes unit
    → has_track (track_at (heads_of head.device) pointer.at) run ≡ true → vtoc.run ≡ run → IsVtoc head (slot_in run size bytes) pointer sliding vtoc → IsVtoc head unit pointer sliding vtoc
same_vtoc head run size bytes unit pointer sliding vtoc h holds same v =
    let P : Run → Type 0 = λ r. IsReading (heads_of head.device) (slot_in run size bytes) r vtoc.tracks in
    let Q : Run → Type 0 = λ r. IsReading (heads_of head.device) unit r vtoc.tracks in
    record {
      bytes = v.bytes;
      format_4 = same_format_4 (heads_of head.device) (slot_in run size bytes) unit pointer v.bytes (at_track run size bytes unit (track_at (heads_of head.device) pointer.at) h holds) v.format_4;
      geometry = v.geometry;
      extent = v.extent;
      heads_are = v.heads_are;
      limit_is = v.limit_is;
      place_is = v.place_is;
      valid_is = v.valid_is;
      alternates_are = v.alternates_are;
      run_is = v.run_is;
      reading = subst Q (sym same) (same_reading (heads_of head.device) run size bytes unit vtoc.tracks h (subst P same v.reading));
    }

pub same_with : (head : Head) (run : Run) (size : ℕ) (bytes : List ℕ) (unit : Slots) (pointer : Cchhr) (sliding : Bool) (vtoc : Vtoc) (four : List ℕ) → AreSlotsOf run size bytes unit
    → has_track (track_at (heads_of head.device) pointer.at) run ≡ true → vtoc.run ≡ run → IsVtocWith head (slot_in run size bytes) pointer sliding vtoc four
    → IsVtocWith head unit pointer sliding vtoc four
same_with head run size bytes unit pointer sliding vtoc four h holds same v =
    record { stands = same_vtoc head run size bytes unit pointer sliding vtoc h holds same v.stands; four_is = v.four_is }

pub front_fault : (head : Head) (run : Run) (size : ℕ) (bytes : List ℕ) (unit : Slots) (pointer : Cchhr) (sliding : Bool) (told : Breach) → AreSlotsOf run size bytes unit
    → has_track (track_at (heads_of head.device) pointer.at) run ≡ true → IsFrontBreach head (slot_in run size bytes) pointer told → IsCheckFault head unit pointer sliding told
front_fault head run size bytes unit pointer sliding told h holds b = inl (same_breach head (slot_in run size bytes) unit pointer told (at_track run size bytes unit (track_at (heads_of head.device) pointer.at) h holds) b)

pub later_fault : (head : Head) (unit : Slots) (pointer : Cchhr) (sliding : Bool) (vtoc : Vtoc) (told : Breach) → IsVtoc head unit pointer sliding vtoc → IsLowestBreach vtoc told → IsCheckFault head unit pointer sliding told
later_fault head unit pointer sliding vtoc told v low = inr (vtoc, v, low)
