-- The VTOC check: which record breaks which rule.
use Rattle.std.specs.Prelude.{◌≡◌, ◌⊎◌, ℕ, zero, suc, ◌+◌, ◌<◌, ◌≤◌, Bool, true, false, ◌==◌, ◌&&◌, ◌||◌, not, nat_le, if◌then◌else◌, List, [], ◌∷◌, ◌++◌, length, map, filter, take, Option, Some, None, is_some, All, Contains}
use Rattle.std.specs.List.{flat_map, list_all, list_any}
use Rattle.volume_model.specs.declared.rule.VtocRule.{VtocRule}
use Rattle.volume_model.specs.declared.rule.VtocRule.TheVariants as rules
use Rattle.volume_model.specs.Rules.{number_of}
use Rattle.volume_model.specs.Dscbs.{numbers_below, format_of, is_broken, is_f1, is_f3, is_f4, is_f5, extents_of, pointer_in}
use Rattle.volume_model.specs.declared.place.Placed.{Placed}
use Rattle.volume_model.specs.declared.place.Breach.{Breach}
use Rattle.volume_model.specs.declared.place.Vtoc.{Vtoc}
use Rattle.volume_model.specs.Directory.{placed_in, named_record, same_place, chain_of}
use Rattle.free_map.specs.declared.run.Run.{Run}
use Rattle.volume_model.specs.Space.{end_of, overlap, is_run, runs_of, all_extents, all_entries, usable_of, is_used, has_track}

abbrev pub breach : VtocRule → Placed → Breach
breach rule placed = record { place = placed.place; rule = rule }

abbrev pub records_of : Vtoc → List Placed
records_of vtoc = placed_in vtoc.run.first vtoc.tracks

-- each element with those before it
abbrev pub with_earlier : {X : Type 0} → List X → List X → List (List X × X)
with_earlier earlier [] = []
with_earlier earlier (x ∷ xs) = (earlier, x) ∷ with_earlier (earlier ++ x ∷ []) xs

-- the elements that a test relates to an earlier one
abbrev pub later_ones : {X : Type 0} → (X → X → Bool) → List X → List X
later_ones related xs = map (λ pair. pair.1) (filter (λ pair. list_any (related pair.1) pair.0) (with_earlier [] xs))

-- ---- tracks, formats and names

-- a VTOC track that is none
abbrev pub bad_tracks : ℕ → List (Option (List (List ℕ))) → List Breach
bad_tracks track [] = []
bad_tracks track (None ∷ more) = record { place = record { track = track; record_number = 0 }; rule = rules.Track } ∷ bad_tracks (track + 1) more
bad_tracks track (Some dscbs ∷ more) = bad_tracks (track + 1) more

-- a record that is no DSCB, or a second format 4
abbrev pub bad_dscbs : Vtoc → List Breach
bad_dscbs vtoc =
    map (breach rules.Dscb)
    (filter (λ placed. is_broken (format_of placed.bytes) || (is_f4 (format_of placed.bytes) && not (same_place placed.place vtoc.format_4))) (records_of vtoc))

abbrev pub same_bytes : List ℕ → List ℕ → Bool
same_bytes [] [] = true
same_bytes (a ∷ as') (b ∷ bs) = (a == b) && same_bytes as' bs
same_bytes _ _ = false

-- a format 1 with the name of an earlier one
abbrev pub bad_names : Vtoc → List Breach
bad_names vtoc =
    map (breach rules.Name)
    (later_ones (λ later earlier. same_bytes (take 44 later.bytes) (take 44 earlier.bytes)) (filter (λ placed. is_f1 (format_of placed.bytes)) (records_of vtoc)))

-- ---- pointers

-- the records of format 1 or 3 that have a pointer
abbrev pub namers_of : Vtoc → List Placed
namers_of vtoc = filter (λ placed. (is_f1 (format_of placed.bytes) || is_f3 (format_of placed.bytes)) && is_some (pointer_in placed.bytes)) (records_of vtoc)

abbrev pub names_format : (List ℕ → Bool) → Option Placed → Bool
names_format test None = false
names_format test (Some placed) = test placed.bytes

abbrev pub named_by : Vtoc → Placed → Option Placed
named_by vtoc placed = named_record vtoc.heads (records_of vtoc) (pointer_in placed.bytes)

abbrev pub names_3 : Vtoc → Placed → Bool
names_3 vtoc placed = names_format (λ bytes. is_f3 (format_of bytes)) (named_by vtoc placed)

abbrev pub same_target : Option Placed → Option Placed → Bool
same_target (Some a) (Some b) = same_place a.place b.place
same_target _ _ = false

abbrev pub is_among : List Placed → Placed → Bool
is_among placeds placed = list_any (λ other. same_place other.place placed.place) placeds

-- the format 3s that some format 1 reaches
abbrev pub reached_3s : Vtoc → List Placed
reached_3s vtoc =
    flat_map (λ placed. chain_of vtoc.heads (records_of vtoc) (length (records_of vtoc)) placed.bytes) (filter (λ placed. is_f1 (format_of placed.bytes)) (records_of vtoc))

-- a pointer that names no format 3, a format 3 that is named twice, and one that no format 1 reaches
abbrev pub bad_pointers : Vtoc → List Breach
bad_pointers vtoc =
    map (breach rules.Pointer)
    (filter (λ placed. not (names_3 vtoc placed)) (namers_of vtoc)
    ++ later_ones (λ later earlier. same_target (named_by vtoc later) (named_by vtoc earlier)) (filter (names_3 vtoc) (namers_of vtoc))
    ++ filter (λ placed. is_f3 (format_of placed.bytes) && not (is_among (reached_3s vtoc) placed)) (records_of vtoc))

-- ---- the chain of format 5s

abbrev pub fives_of : Vtoc → List Placed
fives_of vtoc = filter (λ placed. is_f5 (format_of placed.bytes)) (records_of vtoc)

-- the first of a list, or nothing
abbrev pub first_of : List Placed → Option Placed
first_of [] = None
first_of (placed ∷ more) = Some placed

abbrev pub or_else : Option Placed → Option Placed → Option Placed
or_else None other = other
or_else (Some placed) other = Some placed

-- where the chain begins: the lowest format 5 that no format 5 names, or the lowest of all
abbrev pub first_five : (Placed → Option Placed) → List Placed → Option Placed
first_five named fives =
    or_else (first_of (filter (λ five. not (list_any (λ other. same_target (named other) (Some five)) fives)) fives)) (first_of fives)

-- the chain from a format 5 on, at most so many, and the record whose pointer leads nowhere or back into the chain
abbrev pub FiveChain : Type 0
FiveChain = List Placed × List Placed

abbrev pub goes_on : (Placed → Bool) → List Placed → Placed → Option Placed → (Placed → FiveChain) → FiveChain
goes_on points earlier five None behind = ([], if points five then five ∷ [] else [])
goes_on points earlier five (Some next) behind =
    if is_f5 (format_of next.bytes) && not (is_among earlier next) then behind next else ([], five ∷ [])

abbrev pub linked : Placed → FiveChain → FiveChain
linked five chain = (five ∷ chain.0, chain.1)

abbrev pub five_chain : (Placed → Bool) → (Placed → Option Placed) → ℕ → List Placed → Placed → FiveChain
five_chain points named zero earlier five = ([], [])
five_chain points named (suc most) earlier five =
    linked five (goes_on points (earlier ++ five ∷ []) five (named five) (λ next. five_chain points named most (earlier ++ five ∷ []) next))

abbrev pub chain_from : (Placed → Bool) → (Placed → Option Placed) → ℕ → Option Placed → FiveChain
chain_from points named most None = ([], [])
chain_from points named most (Some five) = five_chain points named most [] five

-- a pointer that leads nowhere or back, and a format 5 that isn't in the chain
abbrev pub off_chain : (Placed → Bool) → (Placed → Option Placed) → List Placed → List Placed
off_chain points named fives =
    let chain = chain_from points named (length fives) (first_five named fives) in
    chain.1 ++ filter (λ five. not (is_among chain.0 five)) fives

abbrev pub points : Placed → Bool
points placed = is_some (pointer_in placed.bytes)

-- the same of a VTOC, where format 5 is valid
abbrev pub bad_fives : Vtoc → List Breach
bad_fives vtoc = if vtoc.valid then map (breach rules.Pointer) (off_chain points (named_by vtoc) (fives_of vtoc)) else []

-- ---- extents

-- a record with an extent that is no run below the end of the volume
abbrev pub bad_ranges : Vtoc → List Breach
bad_ranges vtoc =
    map (breach rules.Range) (filter (λ placed. list_any (λ extent. not (is_run vtoc.heads vtoc.limit extent)) (extents_of placed.bytes)) (records_of vtoc))

abbrev pub own_runs : Vtoc → Placed → List Run
own_runs vtoc placed = runs_of vtoc.heads vtoc.limit placed.bytes

abbrev pub track_0 : Run
track_0 = record { first = 0; len = 1 }

-- some of these runs has a track with some of those
abbrev pub any_overlap : List Run → List Run → Bool
any_overlap runs others = list_any (λ run. list_any (overlap run) others) runs

-- two of these runs have a track
abbrev pub overlap_within : List Run → Bool
overlap_within runs = not (nat_le (length (later_ones overlap runs)) 0)

-- a record with an extent that has a track of the VTOC, of track 0, of an earlier record's extent, or of another of its own
abbrev pub bad_overlaps : Vtoc → List Breach
bad_overlaps vtoc =
    map (breach rules.Overlap)
    (filter (λ placed. any_overlap (own_runs vtoc placed) (track_0 ∷ vtoc.run ∷ []) || overlap_within (own_runs vtoc placed)) (records_of vtoc)
    ++ later_ones (λ later earlier. any_overlap (own_runs vtoc later) (own_runs vtoc earlier)) (records_of vtoc))

-- ---- free space

abbrev pub extents_in : Vtoc → List Run
extents_in vtoc = all_extents vtoc.heads vtoc.limit (records_of vtoc)

abbrev pub entries_in : Vtoc → List Run
entries_in vtoc = all_entries vtoc.heads (records_of vtoc)

abbrev pub usable_in : Vtoc → ℕ
usable_in vtoc = usable_of vtoc.valid vtoc.heads vtoc.limit vtoc.alternates vtoc.run (extents_in vtoc) (entries_in vtoc)

-- Each of so many usable tracks is used or stated free, and none twice; stated are tracks below the end of the volume alone.
abbrev pub states_free : ℕ → Run → List Run → List Run → ℕ → Bool
states_free limit vtoc extents entries usable =
    list_all (λ entry. nat_le (end_of entry) limit) entries
    && not (overlap_within entries)
    && not (any_overlap entries (track_0 ∷ vtoc ∷ extents))
    && list_all (λ track. is_used vtoc extents track || list_any (has_track track) entries) (numbers_below usable)

abbrev pub bad_free : Vtoc → List Breach
bad_free vtoc =
    if vtoc.valid && not (states_free vtoc.limit vtoc.run (extents_in vtoc) (entries_in vtoc) (usable_in vtoc))
    then record { place = vtoc.format_4; rule = rules.Free } ∷ []
    else []

-- ---- all of them

-- every place that breaks a rule from the fourth on
abbrev pub breaches_of : Vtoc → List Breach
breaches_of vtoc =
    bad_tracks vtoc.run.first vtoc.tracks ++ bad_dscbs vtoc ++ bad_names vtoc ++ bad_pointers vtoc ++ bad_fives vtoc
    ++ bad_ranges vtoc ++ bad_overlaps vtoc ++ bad_free vtoc

-- a breach is told before another: by track, then record, then rule
abbrev pub IsNotAfter : Breach → Breach → Type 0
IsNotAfter a b =
    (a.place.track < b.place.track)
    ⊎ ((a.place.track ≡ b.place.track) × (a.place.record_number < b.place.record_number))
    ⊎ ((a.place.track ≡ b.place.track) × (a.place.record_number ≡ b.place.record_number) × (number_of a.rule ≤ number_of b.rule))

-- a breach is one of these, and the lowest
pub record IsLowest (breaches : List Breach) (told : Breach) : Type 0 where
  pub is_there : Contains breaches told
  pub lowest : All (IsNotAfter told) breaches

-- the lowest of these breaches, or none where there are none
abbrev pub IsLowestOf : List Breach → Option Breach → Type 0
IsLowestOf breaches None = breaches ≡ []
IsLowestOf breaches (Some told) = IsLowest breaches told

-- the breach that is told: the lowest of all
abbrev pub IsLowestBreach : Vtoc → Breach → Type 0
IsLowestBreach vtoc told = IsLowest (breaches_of vtoc) told
