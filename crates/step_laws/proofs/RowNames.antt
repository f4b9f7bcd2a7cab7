-- The data sets of a volume that passes its checks differ in their names.
use Rattle.std.proofs.Common.{◌≡◌, ◌≢◌, inl, inr, List, [], ◌∷◌, ◌++◌, map, filter, take, ℕ, Bool, true, false, AllPairs, refl, sym, ap, subst, ◌∙◌, arith, Decides}
use Rattle.std.specs.List.{AllByRecursion, IsDistinct, list_any}
use Rattle.std.proofs.lemmas.Bool.{cases_Bool, both_ways, or_parts}
use Rattle.std.proofs.lemmas.List.{get_or-map, length-map}
use Rattle.std.proofs.lemmas.List.Folds.{list_any-append}
use Rattle.std.proofs.lemmas.List.Sorted.{IsPermutation-map}
use Rattle.std.proofs.lemmas.Map.Keys.{IsDistinct-IsPermutation}
use Rattle.std.proofs.lemmas.Map.Made.{AllPairs-from_IsDistinct}
use Rattle.ckd_image.specs.Device.{heads_of}
use Rattle.ckd_image.proofs.Lists.{map_nil}
use Rattle.volume_model.specs.declared.place.Placed.{Placed}
use Rattle.volume_model.specs.declared.place.Vtoc.{Vtoc}
use Rattle.volume_model.specs.declared.rule.VtocRule.TheVariants as rules
use Rattle.volume_model.specs.Check.{breach, records_of, same_bytes, with_earlier, bad_names, breaches_of}
use Rattle.volume_model.specs.Directory.{DirectoryRow, row_of, rows_of}
use Rattle.volume_model.specs.Dscbs.{format_of, is_f1}
use Rattle.volume_model.specs.Reads.{AreDataSets, IsOnline}
use Rattle.volume_model.specs.Sound.{Slots}
use Rattle.volume_model.specs.Unit.{DataSet, OnlineVolume}
use Rattle.volume_model.proofs.NameOrder.{online_by_name}
use Rattle.volume_model.proofs.Numbers.{bytes_itself, bytes_equal}
use Rattle.move_core.proofs.Below.{filter_nil, nil_parts}
use Rattle.step_laws.specs.Outcome.{IsProper}
use Rattle.step_laws.proofs.Names.{name_in, AreApart}

-- ---- the test of bytes

same_decides : (a b : List ℕ) → Decides (same_bytes a b) (a ≡ b)
same_decides a b = (bytes_equal a b, λ same. subst (λ (bytes : List ℕ). same_bytes a bytes ≡ true) same (bytes_itself a))

flipped : (a b : List ℕ) → same_bytes a b ≡ false → same_bytes b a ≡ false
flipped a b differ = elim (cases_Bool (same_bytes b a)) [
  | inl same ↦ absurd (both_ways (same_bytes a b) differ ((same_decides a b).1 (sym (bytes_equal b a same))))
  | inr not ↦ not
]

flips : (a b : List ℕ) → same_bytes a b ≡ same_bytes b a
flips a b = elim (cases_Bool (same_bytes a b)) [
  | inl same ↦ same ∙ sym ((same_decides b a).1 (sym (bytes_equal a b same)))
  | inr not ↦ not ∙ sym (flipped a b not)
]

-- ---- records of which none has an earlier one's name

abbrev name_of : Placed → List ℕ
name_of placed = take 44 placed.bytes

abbrev repeats : Placed → Placed → Bool
repeats later earlier = same_bytes (name_of later) (name_of earlier)

abbrev RepeatsNone : List Placed → List Placed → Type 0
RepeatsNone earlier placeds = AllByRecursion (λ placed. list_any (repeats placed) earlier ≡ false) placeds

-- one less among the earlier ones
parted : (earlier : List Placed) (one : Placed) (placeds : List Placed) → RepeatsNone (earlier ++ one ∷ []) placeds
    → RepeatsNone earlier placeds × AllByRecursion (λ name. same_bytes (name_of one) name ≡ false) (map name_of placeds)
parted earlier one [] all = (tt, tt)
parted earlier one (placed ∷ placeds) all =
    let parts = or_parts (list_any (repeats placed) earlier) (list_any (repeats placed) (one ∷ [])) (sym (list_any-append (repeats placed) earlier (one ∷ [])) ∙ all.0) in
    let here = or_parts (repeats placed one) false parts.1 in
    let rest = parted earlier one placeds all.1 in
    ((parts.0, rest.0), (flipped (name_of placed) (name_of one) here.0, rest.1))

distinct : (earlier placeds : List Placed) → AllByRecursion (λ pair. list_any (repeats pair.1) pair.0 ≡ false) (with_earlier earlier placeds)
    → RepeatsNone earlier placeds × IsDistinct same_bytes (map name_of placeds)
unfolding IsDistinct
distinct earlier [] all = (tt, tt)
distinct earlier (placed ∷ placeds) all =
    let rest = distinct (earlier ++ placed ∷ []) placeds all.1 in
    let both = parted earlier placed placeds rest.0 in
    ((all.0, both.0), (both.1, rest.1))

-- ---- rows and data sets

abbrev row_name : DirectoryRow → List ℕ
row_name row = take 44 row.format_1

row_names : (heads : ℕ) (records placeds : List Placed) → map row_name (map (row_of heads records) placeds) ≡ map name_of placeds
row_names heads records [] = refl
row_names heads records (placed ∷ placeds) = ap (λ (names : List (List ℕ)). name_of placed ∷ names) (row_names heads records placeds)

set_names : (heads : ℕ) (place : ℕ → ℕ) (slots : Slots) (rows : List DirectoryRow) (sets : List DataSet) → AreDataSets heads place slots rows sets → map row_name rows ≡ map name_in sets
set_names heads place slots [] [] are = refl
set_names heads place slots [] (set ∷ sets) are = absurd are
set_names heads place slots (row ∷ rows) [] are = absurd are
set_names heads place slots (row ∷ rows) (set ∷ sets) are = λ i. sym are.0.name_is i ∷ set_names heads place slots rows sets are.1 i

names_apart : (sets : List DataSet) → AllPairs (λ one other. one ≢ other) (map name_in sets) → AreApart sets
names_apart sets apart i j d less within same =
    apart i j d.name less (omega (arith, within, length-map sets name_in))
    (get_or-map name_in sets i d d.name (omega (arith, less, within)) ∙ same ∙ sym (get_or-map name_in sets j d d.name within))

-- ---- a volume

module _ (vtoc : Vtoc) (sound : breaches_of vtoc ≡ []) where
  abbrev named : List Placed
  named = filter (λ placed. is_f1 (format_of placed.bytes)) (records_of vtoc)

  rows_distinct : IsDistinct same_bytes (map row_name (rows_of vtoc.heads (records_of vtoc)))
  rows_distinct =
      let none : bad_names vtoc ≡ [] = (nil_parts _ _ (nil_parts _ _ (nil_parts _ _ (nil_parts _ _ (nil_parts _ _ (nil_parts _ _ sound).0).0).0).0).0).1 in
      let later = map_nil (λ (pair : List Placed × Placed). pair.1) _ (map_nil (breach rules.Name) _ none) in
      subst (λ (names : List (List ℕ)). IsDistinct same_bytes names) (sym (row_names vtoc.heads (records_of vtoc) named))
      (distinct [] named (filter_nil (λ (pair : List Placed × Placed). list_any (repeats pair.1) pair.0) (with_earlier [] named) later)).1

pub online_proper : {sliding : Bool} {place : ℕ → ℕ} {head : List ℕ} {blocks : ℕ} {slots : Slots} {volume : OnlineVolume} → IsOnline sliding place head blocks slots volume
    → IsProper volume
online_proper {sliding} {place} {head} {blocks} {slots} {volume} is =
    let vtoc = is.stands.vtoc in
    let found = rows_of vtoc.heads (records_of vtoc) in
    let rows : IsDistinct same_bytes (map row_name is.found.rows) =
    IsDistinct-IsPermutation same_bytes flips (map row_name found) (map row_name is.found.rows) (IsPermutation-map row_name found is.found.rows is.stands.rows_are.same) (rows_distinct vtoc is.stands.sound) in
    let sets : IsDistinct same_bytes (map name_in volume.sets) =
    subst (λ (names : List (List ℕ)). IsDistinct same_bytes names) (set_names (heads_of is.found.device) place slots is.found.rows volume.sets is.sets_are) rows in
    record { order = online_by_name is; apart = names_apart volume.sets (AllPairs-from_IsDistinct same_decides (map name_in volume.sets) sets) }
