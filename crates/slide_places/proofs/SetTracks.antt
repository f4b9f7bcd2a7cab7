-- The tracks of an online volume's data sets are usable, and none is the VTOC's.
use Rattle.std.proofs.Common.{◌≡◌, inl, inr, ℕ, ◌<◌, ◌≤◌, List, [], ◌∷◌, ◌++◌, map, filter, Bool, true, false, sym, ap, subst, ◌∙◌, arith}
use Rattle.std.specs.Prelude.{◌||◌}
use Rattle.std.specs.List.{AllByRecursion, flat_map, list_any}
use Rattle.std.proofs.lemmas.Bool.{cases_Bool, or_parts, both_ways}
use Rattle.std.proofs.lemmas.Bool.Decides.{nat_tests}
use Rattle.std.proofs.lemmas.List.Elements.{All-from_recursion, recursion_from_All}
use Rattle.ckd_image.specs.Device.{heads_of}
use Rattle.free_map.specs.declared.run.Run.{Run}
use Rattle.free_map.specs.Runs.{HasTrack, InRuns}
use Rattle.volume_model.specs.declared.extent.ExtentField.{ExtentField}
use Rattle.volume_model.specs.declared.place.Placed.{Placed}
use Rattle.volume_model.specs.declared.place.Vtoc.{Vtoc}
use Rattle.volume_model.specs.declared.rule.VtocRule.TheVariants as rules
use Rattle.volume_model.specs.Check.{breach, records_of, own_runs, track_0, any_overlap, overlap_within, bad_overlaps, extents_in, usable_in, breaches_of}
use Rattle.volume_model.specs.Dscbs.{extents_of}
use Rattle.volume_model.specs.Reads.{AreDataSets, IsOnline}
use Rattle.volume_model.specs.Sound.{Slots}
use Rattle.volume_model.specs.Space.{end_of, overlap, is_run, run_of, runs_of}
use Rattle.volume_model.specs.Unit.{OnlineVolume, runs_of_sets}
use Rattle.volume_model.proofs.Filters.{filter_skip, filter_keep}
use Rattle.ckd_image.proofs.Lists.{map_nil}
use Rattle.vtoc_load.proofs.Usable.{usable_least}
use Rattle.move_core.proofs.Below.{filter_nil, nil_parts, weaker, records_runs, order_has, sets_give, RecordHas, RowHas, IsRunBelow, HasRuns}

-- ---- lists

both_parts : {X : Type 0} (P : X → Type 0) (xs ys : List X) → AllByRecursion P (xs ++ ys) → AllByRecursion P xs × AllByRecursion P ys
both_parts P [] ys all = (tt, all)
both_parts P (x ∷ xs) ys all = let rest = both_parts P xs ys all.1 in ((all.0, rest.0), rest.1)

each_part : {X Y : Type 0} (P : Y → Type 0) (f : X → List Y) (xs : List X) → AllByRecursion P (flat_map f xs) → AllByRecursion (λ x. AllByRecursion P (f x)) xs
each_part P f [] all = tt
each_part P f (x ∷ xs) all = let parts = both_parts P (f x) (flat_map f xs) all in (parts.0, each_part P f xs parts.1)

none_any : {X : Type 0} (test : X → Bool) (xs : List X) → list_any test xs ≡ false → AllByRecursion (λ x. test x ≡ false) xs
none_any test [] e = tt
none_any test (x ∷ xs) e = let parts = or_parts (test x) (list_any test xs) e in (parts.0, none_any test xs parts.1)

-- what holds of what a test lets through, once it is mapped
before_map : {X Y : Type 0} (P : Y → Type 0) (test : X → Bool) (f : X → Y) (xs : List X) → AllByRecursion P (map f (filter test xs))
    → AllByRecursion (λ x. test x ≡ true → P (f x)) xs
before_map P test f [] all = tt
before_map P test f (x ∷ xs) all = elim (cases_Bool (test x)) [
  | inl passes ↦
      (let shown = subst (λ kept. AllByRecursion P (map f kept)) (filter_keep test x xs passes) all in
      (λ passed. shown.0, before_map P test f xs shown.1))
  | inr fails ↦
      (λ passed. absurd (both_ways (test x) fails passed), before_map P test f xs (subst (λ kept. AllByRecursion P (map f kept)) (filter_skip test x xs fails) all))
]

-- ---- the extents of records

-- an extent ends where usable tracks do, or before, and has no track with the VTOC
abbrev IsPlaced : Vtoc → ExtentField → Type 0
IsPlaced vtoc field = (end_of (run_of vtoc.heads field) ≤ usable_in vtoc) × (overlap (run_of vtoc.heads field) vtoc.run ≡ false)

module _ (vtoc : Vtoc) (sound : breaches_of vtoc ≡ []) where
  abbrev records : List Placed
  records = records_of vtoc

  abbrev Runs : ExtentField → Type 0
  Runs field = is_run vtoc.heads vtoc.limit field ≡ true

  no_overlaps : bad_overlaps vtoc ≡ []
  no_overlaps = (nil_parts _ _ (nil_parts _ _ sound).0).1

  off_vtoc : AllByRecursion (λ placed. AllByRecursion (λ field. Runs field → overlap (run_of vtoc.heads field) vtoc.run ≡ false) (extents_of placed.bytes)) records
  off_vtoc =
      let test : Placed → Bool = λ placed. any_overlap (own_runs vtoc placed) (track_0 ∷ vtoc.run ∷ []) || overlap_within (own_runs vtoc placed) in
      let others : List Run = track_0 ∷ vtoc.run ∷ [] in
      let none = (nil_parts _ _ (map_nil (breach rules.Overlap) _ no_overlaps)).0 in
      weaker (λ placed. test placed ≡ false) _
      (λ placed no.
      weaker (λ field. Runs field → list_any (overlap (run_of vtoc.heads field)) others ≡ false) _
      (λ field off is. (none_any (overlap (run_of vtoc.heads field)) others (off is)).1.0) (extents_of placed.bytes)
      (before_map (λ run. list_any (overlap run) others ≡ false) (is_run vtoc.heads vtoc.limit) (run_of vtoc.heads) (extents_of placed.bytes)
      (none_any (λ run. list_any (overlap run) others) (own_runs vtoc placed) (or_parts _ (overlap_within (own_runs vtoc placed)) no).0)))
      records (filter_nil test records none)

  below_end : AllByRecursion (λ placed. AllByRecursion (λ field. Runs field → end_of (run_of vtoc.heads field) ≤ usable_in vtoc) (extents_of placed.bytes)) records
  below_end =
      let Ends : Run → Type 0 = λ run. end_of run ≤ usable_in vtoc in
      let all = recursion_from_All Ends (track_0 ∷ vtoc.run ∷ extents_in vtoc) (usable_least vtoc) in
      weaker (λ placed. AllByRecursion Ends (runs_of vtoc.heads vtoc.limit placed.bytes)) _
      (λ placed ends. before_map Ends (is_run vtoc.heads vtoc.limit) (run_of vtoc.heads) (extents_of placed.bytes) ends) records
      (each_part Ends (λ placed. runs_of vtoc.heads vtoc.limit placed.bytes) records all.1.1)

  fields_placed : (fields : List ExtentField) → AllByRecursion Runs fields → AllByRecursion (λ field. Runs field → end_of (run_of vtoc.heads field) ≤ usable_in vtoc) fields
      → AllByRecursion (λ field. Runs field → overlap (run_of vtoc.heads field) vtoc.run ≡ false) fields → AllByRecursion (IsPlaced vtoc) fields
  fields_placed [] runs ends off = tt
  fields_placed (field ∷ fields) runs ends off = ((ends.0 runs.0, off.0 runs.0), fields_placed fields runs.1 ends.1 off.1)

  records_placed : (placeds : List Placed) → AllByRecursion (HasRuns vtoc.heads vtoc.limit) placeds
      → AllByRecursion (λ placed. AllByRecursion (λ field. Runs field → end_of (run_of vtoc.heads field) ≤ usable_in vtoc) (extents_of placed.bytes)) placeds
      → AllByRecursion (λ placed. AllByRecursion (λ field. Runs field → overlap (run_of vtoc.heads field) vtoc.run ≡ false) (extents_of placed.bytes)) placeds
      → AllByRecursion (RecordHas (IsPlaced vtoc)) placeds
  records_placed [] runs ends off = tt
  records_placed (placed ∷ placeds) runs ends off = (
    All-from_recursion (IsPlaced vtoc) (extents_of placed.bytes)
        (fields_placed (extents_of placed.bytes) (recursion_from_All (IsRunBelow vtoc.heads vtoc.limit) (extents_of placed.bytes) runs.0) ends.0 off.0),
    records_placed placeds runs.1 ends.1 off.1,
  )

  pub all_placed : AllByRecursion (RecordHas (IsPlaced vtoc)) (records_of vtoc)
  all_placed = records_placed records (records_runs vtoc sound) below_end off_vtoc

-- ---- the tracks of data sets

not_both : (run vtoc : Run) (track : ℕ) → overlap run vtoc ≡ false → HasTrack run track → ¬ HasTrack vtoc track
not_both run vtoc track off has held =
    let both : overlap run vtoc ≡ true = grind (arith, nat_tests) in
    both_ways (overlap run vtoc) off both

module _ (sliding : Bool) (place : ℕ → ℕ) (head : List ℕ) (blocks : ℕ) (slots : Slots) (volume : OnlineVolume) (on : IsOnline sliding place head blocks slots volume) where
  pub set_track_placed : (track : ℕ) → InRuns (runs_of_sets volume.sets) track → (track < volume.usable) × (¬ HasTrack volume.vtoc track)
  set_track_placed track here =
      let s = on.stands in
      let heads : s.vtoc.heads ≡ heads_of on.found.device = s.vtoc_stands.heads_are ∙ ap heads_of (sym s.device_is) in
      let R : Type 0 = (track < volume.usable) × (¬ HasTrack volume.vtoc track) in
      let usable : volume.usable ≡ usable_in s.vtoc = on.usable_is ∙ s.usable_is in
      let rows : AllByRecursion (RowHas (IsPlaced s.vtoc)) on.found.rows =
      order_has (IsPlaced s.vtoc) s.vtoc.heads (records_of s.vtoc) on.found.rows s.rows_are (all_placed s.vtoc s.sound) in
      sets_give s.vtoc.heads track (IsPlaced s.vtoc) R
      (λ field placed has. (
        omega (arith, has.1, placed.0, usable),
        λ held. not_both (run_of s.vtoc.heads field) s.vtoc.run track placed.1 has (subst (λ (run : Run). HasTrack run track) on.vtoc_is held),
      ))
      place slots on.found.rows volume.sets (subst (λ (n : ℕ). AreDataSets n place slots on.found.rows volume.sets) (sym heads) on.sets_are) rows here
