-- Extents on runs of tracks.
use Rattle.std.proofs.Common.{◌≡◌, ◌≢◌, inl, inr, ℕ, ◌+◌, ◌-◌, ◌<◌, ◌≤◌, ◌&&◌, List, [], ◌∷◌, length, map, All, true, refl, sym, ap, subst, arith}
use Rattle.std.specs.Prelude.{nat_le, nat_lt}
use Rattle.std.proofs.lemmas.Bool.{le-leb, lt-ltb, and_parts}
use Rattle.std.proofs.lemmas.List.Elements.{All-nil, All-cons, All-head, All-tail}
use Rattle.ckd_image.specs.Address.{address_of}
use Rattle.ckd_image.specs.Device.{heads_of}
use Rattle.ckd_image.specs.declared.device.Device.{Device}
use Rattle.ckd_image.specs.declared.track.TrackAt.{TrackAt}
use Rattle.ckd_image.specs.declared.device.Device.TheVariants.{D3390, D3380, D3350}
use Rattle.dscb_rec.specs.declared.field.Extent.{Extent as Field}
use Rattle.free_map.specs.declared.run.Run.{Run}
use Rattle.volume_model.specs.Pinned.{AreByCylinders}
use Rattle.volume_model.specs.Reads.{extent_in}
use Rattle.volume_model.specs.Space.{is_run, run_of, track_at}
use Rattle.volume_model.specs.declared.extent.ExtentField.{ExtentField}
use Rattle.vtoc_check.proofs.Overlapping.{run_facts}
use Rattle.volume_model.specs.Unit.{Extent}
use Rattle.vtoc_core.specs.Loaded.{field_of}
use Rattle.move_core.specs.Steps.{IsNewKind, extents_on}
use Rattle.step_plans.specs.Plans.{IsRoom, extents_from, field_on}

-- ---- one run

track_there : (device : Device) (track : ℕ) → track_at (heads_of device) (address_of (heads_of device) track) ≡ track
track_there D3390 track = omega arith
track_there D3380 track = omega arith
track_there D3350 track = omega arith

head_there : (device : Device) (track : ℕ) → (address_of (heads_of device) track).head < heads_of device
head_there D3390 track = omega arith
head_there D3380 track = omega arith
head_there D3350 track = omega arith

-- the front of a run is one
pub front_is_run : (device : Device) (field : ExtentField) (keep : ℕ) (last : TrackAt) → is_run (heads_of device) 65536 field ≡ true → 0 < keep → keep < (run_of (heads_of device) field).len
    → last ≡ address_of (heads_of device) (track_at (heads_of device) field.first + keep - 1) → is_run (heads_of device) 65536 (record { kind = field.kind; first = field.first; last = last }) ≡ true
front_is_run device field keep last e some fewer is =
    subst (λ (at : TrackAt). is_run (heads_of device) 65536 (record { kind = field.kind; first = field.first; last = at }) ≡ true) (sym is) front
  where
    heads : ℕ
    heads = heads_of device

    track : ℕ
    track = track_at heads field.first + keep - 1

    there : track_at heads (address_of heads track) ≡ track
    there = track_there device track

    within : (run_of heads field).first + (run_of heads field).len ≤ 65536
    within = (run_facts heads 65536 field e).0

    heads_in : (nat_lt field.first.head heads && nat_lt field.last.head heads) ≡ true
    heads_in = (and_parts (nat_lt field.first.head heads && nat_lt field.last.head heads) (nat_le (track_at heads field.first) (track_at heads field.last))
        (and_parts (nat_lt field.first.head heads && nat_lt field.last.head heads && nat_le (track_at heads field.first) (track_at heads field.last)) (nat_lt (track_at heads field.last) 65536) e).0).0

    front : is_run heads 65536 (record { kind = field.kind; first = field.first; last = address_of heads track }) ≡ true
    front =
        let first_in = (and_parts (nat_lt field.first.head heads) (nat_lt field.last.head heads) heads_in).0 in
        let order = le-leb (track_at heads field.first) (track_at heads (address_of heads track)) (omega (arith, there, some)) in
        let below = lt-ltb (track_at heads (address_of heads track)) 65536 (omega (arith, there, some, fewer, within)) in
        (λ i. first_in i && lt-ltb (address_of heads track).head heads (head_there device track) i && order i && below i)

module _ (device : Device) (kind : ℕ) (run : Run) (room : IsRoom run) where
  abbrev heads : ℕ
  heads = heads_of device

  abbrev last : ℕ
  last = run.first + (run.len - 1)

  pub on_run : extent_in (heads_of device) (field_of (field_on device kind run)) ≡ record { run = run; kind = kind }
  on_run =
      let long : track_at heads (address_of heads last) + 1 - track_at heads (address_of heads run.first) ≡ run.len =
      omega (arith, track_there device last, track_there device run.first, room.some) in
      (λ i. record { run = record { first = track_there device run.first i; len = long i }; kind = kind })

  -- it is a run of the tracks below any track behind it
  pub is_on_run : (limit : ℕ) → run.first + run.len ≤ limit → is_run (heads_of device) limit (field_of (field_on device kind run)) ≡ true
  is_on_run limit below =
      let first_at = track_there device run.first in
      let last_at = track_there device last in
      let order = le-leb (track_at heads (address_of heads run.first)) (track_at heads (address_of heads last)) (omega (arith, first_at, last_at)) in
      let within = lt-ltb (track_at heads (address_of heads last)) limit (omega (arith, last_at, below, room.some)) in
      (λ i. lt-ltb (address_of heads run.first).head heads (head_there device run.first) i && lt-ltb (address_of heads last).head heads (head_there device last) i && order i && within i)

-- ---- several

module _ (device : Device) (kind : ℕ) where
  pub on_runs : (runs : List Run) → All IsRoom runs → extents_from device (map (field_on device kind) runs) ≡ extents_on kind runs
  on_runs [] rooms = refl
  on_runs (run ∷ runs) rooms = (λ i. on_run device kind run (All-head IsRoom run runs rooms) i ∷ on_runs runs (All-tail IsRoom run runs rooms) i)

  pub are_on_runs : (limit : ℕ) (runs : List Run) → All IsRoom runs → All (λ run. run.first + run.len ≤ limit) runs
      → All (λ extent. is_run (heads_of device) limit (field_of extent) ≡ true) (map (field_on device kind) runs)
  are_on_runs limit [] rooms below = All-nil (λ extent. is_run (heads_of device) limit (field_of extent) ≡ true)
  are_on_runs limit (run ∷ runs) rooms below =
      All-cons (λ extent. is_run (heads_of device) limit (field_of extent) ≡ true) (field_on device kind run) (map (field_on device kind) runs)
      (is_on_run device kind run (All-head IsRoom run runs rooms) limit (All-head (λ (r : Run). r.first + r.len ≤ limit) run runs below))
      (are_on_runs limit runs (All-tail IsRoom run runs rooms) (All-tail (λ (r : Run). r.first + r.len ≤ limit) run runs below))

  pub kinds_on : (runs : List Run) → All (λ extent. extent.kind ≡ kind) (map (field_on device kind) runs)
  kinds_on [] = All-nil (λ extent. extent.kind ≡ kind)
  kinds_on (run ∷ runs) = All-cons (λ extent. extent.kind ≡ kind) (field_on device kind run) (map (field_on device kind) runs) refl (kinds_on runs)

-- ---- types

module _ (device : Device) where
  kinds_up : (extents : List Field) → All (λ extent. extent.kind ≡ 0x81) extents → All (λ extent. extent.kind ≡ 0x81) (extents_from device extents)
  kinds_up [] all = All-nil (λ extent. extent.kind ≡ 0x81)
  kinds_up (extent ∷ extents) all =
      All-cons (λ extent. extent.kind ≡ 0x81) (extent_in (heads_of device) (field_of extent)) (extents_from device extents) (All-head (λ (e : Field). e.kind ≡ 0x81) extent extents all)
      (kinds_up extents (All-tail (λ (e : Field). e.kind ≡ 0x81) extent extents all))

  kinds_down : (extents : List Field) → All (λ extent. extent.kind ≡ 0x81) (extents_from device extents) → All (λ extent. extent.kind ≡ 0x81) extents
  kinds_down [] all = All-nil (λ extent. extent.kind ≡ 0x81)
  kinds_down (extent ∷ extents) all =
      All-cons (λ extent. extent.kind ≡ 0x81) extent extents
      (All-head (λ (e : Extent). e.kind ≡ 0x81) (extent_in (heads_of device) (field_of extent)) (extents_from device extents) all)
      (kinds_down extents (All-tail (λ (e : Extent). e.kind ≡ 0x81) (extent_in (heads_of device) (field_of extent)) (extents_from device extents) all))

  some_up : (extents : List Field) → extents ≢ [] → extents_from device extents ≢ []
  some_up [] some same = some refl
  some_up (extent ∷ extents) some same = omega (arith, ap length same)

  some_down : (extents : List Field) → extents_from device extents ≢ [] → extents ≢ []
  some_down [] some same = some refl
  some_down (extent ∷ extents) some same = omega (arith, ap length same)

  pub of_cylinders : (extents : List Field) → AreByCylinders (λ (e : Field). e.kind) extents → IsNewKind (extents_from device extents) 0x81
  of_cylinders extents by = inl ((some_up extents by.0, kinds_up extents by.1), refl)

  pub of_tracks : (extents : List Field) → ¬ AreByCylinders (λ (e : Field). e.kind) extents → IsNewKind (extents_from device extents) 0x01
  of_tracks extents not_by = inr ((λ by. not_by (some_down extents by.0, kinds_down extents by.1)), refl)
