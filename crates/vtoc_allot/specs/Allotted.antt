-- Which records a change of a VTOC keeps, takes and gives back.
use Rattle.std.specs.Prelude.{◌≡◌, ◌⊎◌, ℕ, ◌+◌, ◌-◌, ◌<◌, Bool, true, false, not, ◌&&◌, ◌||◌, ◌==◌, if◌then◌else◌, List, [], ◌∷◌, ◌++◌, length, map, filter, take, drop, All, Contains, Option, Some, None}
use Rattle.std.specs.List.{list_any}
use Rattle.volume_model.specs.declared.place.Place.{Place}
use Rattle.volume_model.specs.declared.place.Placed.{Placed}
use Rattle.volume_model.specs.Directory.{same_place}
use Rattle.volume_model.specs.Dscbs.{is_free_record}
use Rattle.vtoc_check.specs.declared.fault.VtocFault.{VtocFault}
use Rattle.vtoc_check.specs.declared.fault.VtocFault.TheVariants.{VtocFull, NoMemory}
use Rattle.vtoc_layout.specs.Layout.{AreDistinct}
use Rattle.vtoc_allot.specs.declared.held.Held.{Held}
use Rattle.vtoc_allot.specs.declared.held.Wanted.{Wanted}
use Rattle.vtoc_allot.specs.declared.places.Allotment.{Allotment}

-- the one that there is, or none
abbrev pub listed : {X : Type 0} → Option X → List X
listed None = []
listed (Some x) = x ∷ []

abbrev pub one_if : Bool → ℕ
one_if test = if test then 1 else 0

-- some of these places is this one
abbrev pub is_at : List Place → Place → Bool
is_at places place = list_any (same_place place) places

-- ---- what is held and what is wanted

abbrev pub held_places : Held → List Place
held_places held = listed held.one ++ (held.threes ++ held.fives)

abbrev pub held_count : Held → ℕ
held_count held = length (listed held.one) + length held.threes + length held.fives

abbrev pub wanted_count : Wanted → ℕ
wanted_count wanted = one_if wanted.one + one_if wanted.three + wanted.fives

-- A data set's format 1 keeps its record, and so does its first format 3; format 5s keep theirs in the order of their chain.
abbrev pub kept_one : Held → Wanted → List Place
kept_one held wanted = if wanted.one then listed held.one else []

abbrev pub kept_three : Held → Wanted → List Place
kept_three held wanted = take (one_if wanted.three) held.threes

abbrev pub kept_fives : Held → Wanted → List Place
kept_fives held wanted = take wanted.fives held.fives

-- the others are given back
abbrev pub given_back : Held → Wanted → List Place
given_back held wanted = (if wanted.one then [] else listed held.one) ++ (drop (one_if wanted.three) held.threes ++ drop wanted.fives held.fives)

-- and so many are taken
abbrev pub new_ones : Held → Wanted → ℕ
new_ones held wanted = one_if wanted.one - length (listed held.one)

abbrev pub new_threes : Held → Wanted → ℕ
new_threes held wanted = one_if wanted.three - length held.threes

abbrev pub new_fives : Held → Wanted → ℕ
new_fives held wanted = wanted.fives - length held.fives

-- ---- records to take

abbrev pub free_count : List Placed → ℕ
free_count records = length (filter is_free_record records)

-- the places that are free, or are given back, in their order
abbrev pub pool_of : List Placed → List Place → List Place
pool_of records given = map (λ placed. placed.place) (filter (λ placed. is_free_record placed || is_at given placed.place) records)

-- the same without one place
abbrev pub without : Place → List Place → List Place
without place places = filter (λ other. not (same_place place other)) places

-- The first format 5, where there was none, takes a record of its own choice where that is in the pool, and else the lowest of the pool.
abbrev pub TakesFirst : Place → Bool → List Place → List Place → List Place → Type 0
TakesFirst second false pool first rest = (first ≡ []) × (rest ≡ pool)
TakesFirst second true pool first rest =
    ((is_at pool second ≡ true) × (first ≡ second ∷ []) × (rest ≡ without second pool))
    ⊎ ((is_at pool second ≡ false) × ((place : Place) × (first ≡ place ∷ []) × (pool ≡ place ∷ rest)))

-- there is no format 5, and one is wanted
abbrev pub wants_first : Held → Wanted → Bool
wants_first held wanted = (length held.fives == 0) && not (wanted.fives == 0)

-- the one that goes on, if it is wanted
abbrev pub kept_if : Bool → Option Place → List Place
kept_if wanted kept = if wanted then listed kept else []

-- the parts that the data set's format 1, its format 3 and further format 5s take from a pool, in this order
pub record ArePartsOf (held : Held) (wanted : Wanted) (first : Option Place) (pool ones threes fives : List Place) : Type 0 where
  pub left : List Place
  pub pool_is : pool ≡ ones ++ (threes ++ (fives ++ left))
  pub so_many_ones : length ones ≡ new_ones held wanted
  pub so_many_threes : length threes ≡ new_threes held wanted
  pub so_many_fives : length (listed first) + length fives ≡ new_fives held wanted

-- The places after a change. What stays in use keeps its places. Then the lowest of the pool are taken: by the first format 5, where there was
-- none, by the data set's format 1, by its format 3, and by further format 5s. What is given back and isn't taken is free.
pub record IsAllotted (records : List Placed) (second : Place) (held : Held) (wanted : Wanted) (allotment : Allotment) : Type 0 where
  pub first : Option Place
  pub pool : List Place
  pub ones : List Place
  pub threes : List Place
  pub fives : List Place
  pub first_is : TakesFirst second (wants_first held wanted) (pool_of records (given_back held wanted)) (listed first) pool
  pub parts : ArePartsOf held wanted first pool ones threes fives
  pub one_is : listed allotment.one ≡ kept_one held wanted ++ ones
  pub three_is : listed allotment.three ≡ kept_three held wanted ++ threes
  pub fives_are : allotment.fives ≡ kept_fives held wanted ++ (listed first ++ fives)
  pub freed_are : allotment.freed ≡ filter (λ place. not (is_at (listed first ++ (ones ++ (threes ++ fives))) place)) (given_back held wanted)

-- ---- conditions and refusals

-- What is held has places of its own, of records that aren't free.
pub record IsHeld (records : List Placed) (held : Held) : Type 0 where
  pub apart : AreDistinct (held_places held)
  pub there : All (λ place. (placed : Placed) × Contains records placed × (placed.place ≡ place) × (is_free_record placed ≡ false)) (held_places held)

-- so many more are wanted than are held, and fewer are free
pub record IsShort (records : List Placed) (held : Held) (wanted : Wanted) (need free : ℕ) : Type 0 where
  pub need_is : held_count held + need ≡ wanted_count wanted
  pub free_is : free ≡ free_count records
  pub too_few : free < need

-- the VTOC is full, or memory ran out
abbrev pub IsAllotFault : List Placed → Held → Wanted → VtocFault → Type 0
IsAllotFault records held wanted (VtocFull need free) = IsShort records held wanted need free
IsAllotFault records held wanted NoMemory = Unit {0}
IsAllotFault records held wanted _ = ⊥
