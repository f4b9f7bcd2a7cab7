-- No meaning rests on the new places of the next tracks of a slide.
use Rattle.std.proofs.Common.{◌≡◌, ◌⊎◌, ⊎_elim, inl, inr, ℕ, ◌+◌, ◌-◌, ◌<◌, ◌≤◌, ◌==◌, List, [], ◌∷◌, ◌++◌, map, Bool, true, refl, sym, subst, ◌∙◌, arith}
use Rattle.std.specs.Prelude.{◌&&◌, nat_le, nat_lt, slice_get, Some, if◌then◌else◌}
use Rattle.std.proofs.lemmas.Bool.{cases_Bool, leb-true, leb-false, false_from_ne_true}
use Rattle.std.proofs.lemmas.Bool.Decides.{nat_tests}
use Rattle.std.proofs.lemmas.Option.{slice_get_within}
use Rattle.dasd_pool.specs.Disk.{Shape}
use Rattle.dasd_pool.proofs.Slices.{get_there}
use Rattle.free_map.specs.declared.run.Run.{Run}
use Rattle.free_map.specs.Runs.{HasTrack, InRuns}
use Rattle.free_map.proofs.Gaps.{append_left, append_right}
use Rattle.redo_core.specs.declared.control.Control.{Control}
use Rattle.redo_core.specs.declared.control.Control.TheVariants.{Slide}
use Rattle.redo_core.specs.Reading.{journal_of, Reading}
use Rattle.volume_model.specs.Sound.{Slots}
use Rattle.volume_model.specs.Reads.{IsOnline, IsVital, IsVitalTrack}
use Rattle.volume_model.specs.Unit.{Extent, DataSet, OnlineVolume, UnitModel, online, run_in, runs_of_sets, IsFreeTrack}
use Rattle.move_core.specs.Stands.{is_sliding, place_in, extent_from, Slides, IsAfterSlide, Means, RestsOn, AreUnused}
use Rattle.slide_places.specs.Places.{IsStretch, in_stretch, NextPlacesAreUnused}
use Rattle.slide_places.proofs.SetTracks.{set_track_placed}

-- ---- the tracks of the extent that slides

runs_joined : (front back : List Extent) → map run_in (front ++ back) ≡ map run_in front ++ map run_in back
runs_joined [] back = refl
runs_joined (extent ∷ front) back = (λ i. extent.run ∷ runs_joined front back i)

sets_joined : (front back : List DataSet) → runs_of_sets (front ++ back) ≡ runs_of_sets front ++ runs_of_sets back
sets_joined [] back = refl
sets_joined (set ∷ front) back =
    (λ i. map run_in set.extents ++ sets_joined front back i) ∙ sym (assoc (map run_in set.extents) (runs_of_sets front) (runs_of_sets back))
  where
    assoc : (a b c : List Run) → (a ++ b) ++ c ≡ a ++ (b ++ c)
    assoc [] b c = refl
    assoc (x ∷ a) b c = (λ i. x ∷ assoc a b c i)

module _ (room from to len : ℕ) (before after : OnlineVolume) (slides : Slides room from to len before after) (track : ℕ) where
  abbrev front : List DataSet
  front = slides.changes.front

  abbrev back : List DataSet
  back = slides.changes.back

  -- the tracks of the data set whose extent slides
  set_held : InRuns (map run_in slides.extent.set.extents) track → InRuns (runs_of_sets before.sets) track
  set_held inside =
      subst (λ (sets : List DataSet). InRuns (runs_of_sets sets) track) (sym slides.changes.sets_were)
      (subst (λ (runs : List Run). InRuns runs track) (sym (sets_joined front (slides.extent.set ∷ back)))
      (append_right (runs_of_sets front) (runs_of_sets (slides.extent.set ∷ back)) track
      (append_left (map run_in slides.extent.set.extents) (runs_of_sets back) track inside)))

  -- and those of the extent itself
  pub extent_held : from ≤ track → track < from + len → InRuns (runs_of_sets before.sets) track
  extent_held low high =
      let extent : Extent = extent_from from len slides.extent.kind in
      let ahead : List Run = map run_in slides.extent.front in
      let rest : List Extent = extent ∷ slides.extent.back in
      set_held
      (subst (λ (extents : List Extent). InRuns (map run_in extents) track) (sym slides.extents_are)
      (subst (λ (runs : List Run). InRuns runs track) (sym (runs_joined slides.extent.front rest)) (append_right ahead (map run_in rest) track (inl (low, high)))))

-- ---- places, over numbers alone

-- a track of the unit that is done
abbrev is_done : ℕ → ℕ → ℕ → ℕ → ℕ → Bool
is_done unit from done u track = (u == unit) && (nat_le from track && nat_lt track (from + done))

-- a place is below the tracks that are done, or the track itself, which isn't one of those
pub place_cases : (unit from to len done u track : ℕ)
    → ((u ≡ unit) × (from ≤ track) × (track < from + done) × (place_in (Slide unit from to len done) u track ≡ to + (track - from)))
    ⊎ ((place_in (Slide unit from to len done) u track ≡ track) × (u ≡ unit → from ≤ track → from + done ≤ track))
place_cases unit from to len done u track = elim (cases_Bool (is_done unit from done u track)) [
  | inl is ↦
      (let same : u ≡ unit = grind (arith, nat_tests) in
      let low : from ≤ track = grind (arith, nat_tests) in
      let high : track < from + done = grind (arith, nat_tests) in
      inl (same, low, high, λ i. if is i then to + (track - from) else track))
  | inr not ↦ inr (λ i. if not i then to + (track - from) else track, λ same low. grind (arith, nat_tests))
]

pub one_there : (x y : UnitModel) → Some x ≡ Some y → x ≡ y
one_there x y same = cc

-- ---- what is vital

module _ (room unit from to len done count : ℕ) (sliding : Bool) (place : ℕ → ℕ) (head : List ℕ) (blocks : ℕ) (slots : Slots) (before after : OnlineVolume)
    (on : IsOnline sliding place head blocks slots before) (slides : Slides room from to len before after) (stretch : IsStretch from to len done count) where
  abbrev Vital : ℕ → Type 0
  Vital b = IsVitalTrack (place_in (Slide unit from to len done) unit) before b

  -- a track is free, or one of the data sets', and not below those of the extent
  abbrev IsFreeOrOwn : ℕ → Type 0
  IsFreeOrOwn b = IsFreeTrack before b ⊎ ((from ≤ b) × InRuns (runs_of_sets before.sets) b)

  module _ (b : ℕ) (low : to + done ≤ b) (high : b < to + done + count) where
    free_or_own : IsFreeOrOwn b
    free_or_own = elim (cases_Bool (nat_le from b)) [
      | inl is ↦
          (let least : from ≤ b = leb-true from b is in
          inr (least, extent_held room from to len before after slides b least (omega (arith, high, stretch.most, stretch.within, slides.down))))
      | inr not ↦ inl (slides.free b (omega (arith, low)) (leb-false from b not))
    ]

    -- no text stands there
    no_place : (track : ℕ) → InRuns (runs_of_sets before.sets) track → place_in (Slide unit from to len done) unit track ≡ b → IsFreeOrOwn b → ⊥
    no_place track holds at either = elim (place_cases unit from to len done unit track) [
      | inl (same, least, less, is) ↦ omega (arith, low, least, less, is, at)
      | inr (is, behind) ↦
          (let here : track ≡ b = sym is ∙ at in
          ⊎_elim
          (λ (free : IsFreeTrack before b). free.not_set (subst (λ (n : ℕ). InRuns (runs_of_sets before.sets) n) here holds))
          (λ (own : (from ≤ b) × InRuns (runs_of_sets before.sets) b).
          omega (arith, behind refl (omega (arith, own.0, here)), here, high, stretch.most, slides.down))
          either)
    ]

    pub not_vital : ¬ Vital b
    not_vital vital = by free_or_own vital
      where
        placed : InRuns (runs_of_sets before.sets) b → (b < before.usable) × (¬ HasTrack before.vtoc b)
        placed = set_track_placed sliding place head blocks slots before on b

        by : IsFreeOrOwn b → Vital b → ⊥
        by (inl free) (inl tail) = omega (arith, free.usable, tail)
        by (inr own) (inl tail) = omega (arith, (placed own.1).0, tail)
        by (inl free) (inr (inl first)) = free.not_0 first
        by (inr own) (inr (inl first)) = omega (arith, own.0, first, slides.down)
        by (inl free) (inr (inr (inl held))) = free.not_vtoc held
        by (inr own) (inr (inr (inl held))) = (placed own.1).1 held
        by either (inr (inr (inr (track, holds, at)))) = no_place track holds at either

-- ---- the units

module _ (shape : Shape) (reading : Reading) (units : List UnitModel) (unit from to len done : ℕ) (means : Means shape reading units)
    (is : reading.control ≡ Slide unit from to len done) where
  pub opened : IsAfterSlide reading.room (Slide unit from to len done) means.found units
  opened = subst (λ (c : Control). IsAfterSlide reading.room c means.found units) is means.after

  abbrev There : ℕ → List UnitModel → Type 0
  There u found = slice_get found u ≡ Some (online opened.0)

  -- the unit whose extent slides
  pub sliding_there : There unit means.found
  sliding_there =
      let r = opened.2 in
      subst (There unit) (sym r.before_is)
      (subst (λ (u : ℕ). There u (r.front ++ (online opened.0 ∷ r.back))) r.long (get_there r.front r.back (online opened.0)))

  unit_within : unit < journal_of shape
  unit_within = omega (arith, slice_get_within means.found unit (online opened.0) sliding_there, means.found_are.count)

  module _ (count : ℕ) (stretch : IsStretch from to len done count) where
    -- what the meaning of the unit rests on isn't one of the next places
    unused : (b : ℕ) → RestsOn shape reading means.found unit b → to + done ≤ b → b < to + done + count → ⊥
    unused b (model, at, there, vital) low high =
        let head = shape.head unit in
        let blocks = shape.blocks unit in
        let slots = reading.volumes unit in
        let place = place_in reading.control unit in
        let same : model ≡ online opened.0 = one_there model (online opened.0) (sym at ∙ sliding_there) in
        let rests : IsVitalTrack place opened.0 b = subst (λ (m : UnitModel). IsVital place head blocks slots m b) same vital in
        let on = (means.found_are.each unit (online opened.0) sliding_there).1 in
        not_vital reading.room unit from to len done count (is_sliding reading.control unit) place head blocks slots opened.0 opened.1 on opened.3 stretch b low high
        (subst (λ (c : Control). IsVitalTrack (place_in c unit) opened.0 b) is rests)

    unlisted : (u b : ℕ) → RestsOn shape reading means.found u b → ¬ (in_stretch unit to done count u b ≡ true)
    unlisted u b rests listed =
        let same : u ≡ unit = grind (arith, nat_tests) in
        unused b (subst (λ (n : ℕ). RestsOn shape reading means.found n b) same rests) (grind (arith, nat_tests)) (grind (arith, nat_tests))

    pub next_are_unused : AreUnused (in_stretch unit to done count) shape reading means.found
    next_are_unused = record {
      journal = λ b. grind (arith, nat_tests, unit_within);
      volumes = λ u b less rests. false_from_ne_true (in_stretch unit to done count u b) (unlisted u b rests);
    }

pub next_unused : NextPlacesAreUnused
next_unused shape reading units unit from to len done count means is stretch = next_are_unused shape reading units unit from to len done means is count stretch
