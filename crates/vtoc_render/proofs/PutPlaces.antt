-- The places of a VTOC's records, and those that a change allots.
use Rattle.std.proofs.Common.{◌≡◌, ℕ, ◌+◌, ◌-◌, ◌*◌, ◌<◌, ◌≤◌, List, [], ◌∷◌, ◌++◌, length, map, take, not, true, refl, All, Contains, Option, Some, None, IfSome, ap, subst, arith, length-append}
use Rattle.std.proofs.lemmas.List.{length-take}
use Rattle.std.proofs.lemmas.List.Elements.{All-nil, All-cons, All-head, All-tail, All-append, All-weaker, All-contains}
use Rattle.std.proofs.lemmas.List.Filters.{length-filter_both}
use Rattle.volume_model.specs.declared.place.Place.{Place}
use Rattle.volume_model.specs.declared.place.Placed.{Placed}
use Rattle.volume_model.specs.declared.place.Vtoc.{Vtoc}
use Rattle.volume_model.specs.Check.{records_of}
use Rattle.volume_model.specs.Directory.{placed_from, placed_in}
use Rattle.volume_model.specs.Unit.{fives_for}
use Rattle.vtoc_check.specs.Places.{rank_of}
use Rattle.vtoc_check.proofs.Ascending.{IsAscending}
use Rattle.vtoc_check.specs.Sized.{IsSized}
use Rattle.vtoc_check.proofs.Order.{ascending}
use Rattle.vtoc_layout.specs.Layout.{AreDistinct}
use Rattle.vtoc_layout.proofs.Apart.{all_from}
use Rattle.vtoc_layout.proofs.Distinct.{at_first, in_front, in_back, from_map}
use Rattle.layout_edit.specs.Change.{place_of}
use Rattle.vtoc_allot.specs.declared.held.Held.{Held}
use Rattle.vtoc_allot.specs.declared.held.Wanted.{Wanted}
use Rattle.vtoc_allot.specs.declared.places.Allotment.{Allotment}
use Rattle.vtoc_allot.specs.Allotted.{listed, held_count, free_count, IsHeld, IsAllotted}
use Rattle.vtoc_allot.proofs.Pools.{held_few}
use Rattle.vtoc_plan.proofs.Places.{places_there, allotted_are}
use Rattle.vtoc_making.specs.Places.{IsPlace}
use Rattle.volume_model.specs.Dscbs.{is_free_record}

-- ---- the places of records

abbrev IsPlaced : Placed → Type 0
IsPlaced placed = IsPlace placed.place

on_track : (track number : ℕ) (dscbs : List (List ℕ)) → track ≤ 65535 → 1 ≤ number → All IsPlaced (placed_from track number dscbs)
on_track track number [] low some = All-nil IsPlaced
on_track track number (bytes ∷ more) low some =
    All-cons IsPlaced (record { place = record { track = track; record_number = number }; bytes = bytes }) (placed_from track (number + 1) more)
    (record { track = low; number = λ none. omega (arith, some, none) })
    (on_track track (number + 1) more low (omega arith))

in_tracks : (first : ℕ) (tracks : List (Option (List (List ℕ)))) → first + length tracks ≤ 65536 → All IsPlaced (placed_in first tracks)
in_tracks first [] low = All-nil IsPlaced
in_tracks first (None ∷ tracks) low = in_tracks (first + 1) tracks (omega (arith, low))
in_tracks first (Some dscbs ∷ tracks) low =
    All-append IsPlaced (placed_from first 1 dscbs) (placed_in (first + 1) tracks) (on_track first 1 dscbs (omega (arith, low)) (omega arith)) (in_tracks (first + 1) tracks (omega (arith, low)))

pub records_placed : (vtoc : Vtoc) → IsSized vtoc → All (λ placed. IsPlace placed.place) (records_of vtoc)
records_placed vtoc sized = in_tracks vtoc.run.first vtoc.tracks (omega (arith, sized.whole, sized.run_within, sized.limit_fits))

pub records_small : (vtoc : Vtoc) → IsSized vtoc → All (λ placed. placed.place.track ≤ 65535) (records_of vtoc)
records_small vtoc sized = All-weaker IsPlaced (λ (placed : Placed). placed.place.track ≤ 65535) (λ placed is. is.track) (records_of vtoc) (records_placed vtoc sized)

-- ---- how many there are

abbrev IsLow : Placed → Type 0
IsLow placed = placed.place.track ≤ 65535

few_ascending : (from : ℕ) (placed : Placed) (more : List Placed) → IsAscending from (placed ∷ more) → All IsLow (placed ∷ more) → from + length (placed ∷ more) ≤ 16777216
few_ascending from placed [] is low = omega (arith, is.0, is.1, All-head IsLow placed [] low)
few_ascending from placed (next ∷ more) is low = omega (arith, is.0, few_ascending (rank_of placed.place + 1) next more is.2 (All-tail IsLow placed (next ∷ more) low))

counted : (from : ℕ) (records : List Placed) → IsAscending from records → All IsLow records → length records ≤ 16777216
counted from [] is low = omega arith
counted from (placed ∷ more) is low = omega (arith, few_ascending from placed more is low)

pub few_records : (vtoc : Vtoc) → IsSized vtoc → length (records_of vtoc) ≤ 16777216
few_records vtoc sized = counted (256 * vtoc.run.first) (records_of vtoc) (ascending vtoc.run.first vtoc.tracks sized.short) (records_small vtoc sized)

-- what is free and what is held fits in 32 bits
pub few_left : (records : List Placed) (held : Held) → length records ≤ 16777216 → IsHeld records held → AreDistinct (map place_of records) → free_count records + held_count held < 4294967296
few_left records held few is apart =
    omega (arith, few, held_few records held (record { one = true; three = true; fives = 0 }) is apart, length-filter_both is_free_record (λ (placed : Placed). not (is_free_record placed)) (λ placed. refl) records)

pub few_fives : (runs : ℕ) → runs ≤ 65535 → fives_for runs ≤ 65535
few_fives runs few = omega (arith, few)

-- ---- what is allotted

pub so_many_fives : (records : List Placed) (second : Place) (held : Held) (wanted : Wanted) (allotment : Allotment) → IsAllotted records second held wanted allotment → length allotment.fives ≡ wanted.fives
so_many_fives records second held wanted allotment is =
    omega (
      arith,
      ap length is.fives_are,
      length-append (take wanted.fives held.fives) (listed is.first ++ is.fives),
      length-append (listed is.first) is.fives,
      length-take wanted.fives held.fives,
      is.parts.so_many_fives,
    )

module _ (records : List Placed) (second : Place) (held : Held) (wanted : Wanted) (allotment : Allotment) (is : IsHeld records held) (apart : AreDistinct (map place_of records))
    (made : IsAllotted records second held wanted allotment) (placed : All (λ placed. IsPlace placed.place) records) where
  abbrev others : List Place
  others = (listed allotment.one ++ listed allotment.three) ++ allotment.freed

  each : (place : Place) → Contains (allotment.fives ++ others) place → IsPlace place
  each place c =
      let there = places_there records second held wanted allotment is apart made place
      (subst (λ (all : List Place). Contains all place) (allotted_are records second held wanted allotment is apart made) c) in
      let at = from_map place_of records place there in
      subst IsPlace at.2 (All-contains IsPlaced records at.0 placed at.1)

  pub fives_placed : All IsPlace allotment.fives
  fives_placed = all_from IsPlace allotment.fives (λ place c. each place (in_front allotment.fives others place c))

  pub three_placed : IfSome allotment.three IsPlace
  three_placed =
      by allotment.three
      (λ place c. each place (in_back allotment.fives others place (in_front (listed allotment.one ++ listed allotment.three) allotment.freed place (in_back (listed allotment.one) (listed allotment.three) place c))))
    where
      by : (three : Option Place) → ((place : Place) → Contains (listed three) place → IsPlace place) → IfSome three IsPlace
      by None all = tt
      by (Some place) all = all place (at_first place [])
