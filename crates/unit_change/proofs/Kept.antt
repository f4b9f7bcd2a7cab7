-- Data sets whose tracks don't change keep their texts.
use Rattle.std.proofs.Common.{◌≡◌, ℕ, ◌+◌, List, [], ◌∷◌, ◌++◌, map, refl, sym, ap, subst}
use Rattle.std.specs.List.{AllByRecursion}
use Rattle.std.proofs.lemmas.List.Elements.{recursion_from_All}
use Rattle.free_map.specs.Runs.{InRuns}
use Rattle.free_map.proofs.Gaps.{append_left, append_right}
use Rattle.volume_model.specs.Directory.{DirectoryRow}
use Rattle.volume_model.specs.Reads.{IsTextAt, AreTexts, IsDataSet, AreDataSets}
use Rattle.volume_model.specs.Sound.{Slots}
use Rattle.volume_model.specs.Unit.{Text, Extent, DataSet, run_in, tracks_of, runs_of_sets}
use Rattle.unit_change.specs.Described.{own_place}
use Rattle.volume_model.proofs.Numbers.{tracks_all}

-- ---- tracks

-- ---- texts

module _ (heads : ℕ) (old new : Slots) where
  abbrev IsSame : ℕ → Type 0
  IsSame track = new track ≡ old track

  texts_move : (tracks : List ℕ) (texts : List Text) → AllByRecursion IsSame tracks → AreTexts heads own_place old tracks texts → AreTexts heads own_place new tracks texts
  texts_move [] [] same are = tt
  texts_move [] (text ∷ texts) same are = absurd are
  texts_move (track ∷ tracks) [] same are = absurd are
  texts_move (track ∷ tracks) (text ∷ texts) same are =
      (subst (λ (slot : List ℕ). IsTextAt heads track slot text) (sym same.0) are.0, texts_move tracks texts same.1 are.1)

  pub texts_kept : (extents : List Extent) (texts : List Text) → ((track : ℕ) → InRuns (map run_in extents) track → new track ≡ old track)
      → AreTexts heads own_place old (tracks_of extents) texts → AreTexts heads own_place new (tracks_of extents) texts
  texts_kept extents texts same are = texts_move (tracks_of extents) texts (recursion_from_All IsSame (tracks_of extents) (tracks_all IsSame extents same)) are

  set_kept : (row : DirectoryRow) (set : DataSet) → ((track : ℕ) → InRuns (map run_in set.extents) track → IsSame track) → IsDataSet heads own_place old row set
      → IsDataSet heads own_place new row set
  set_kept row set same is = record {
    name_is = is.name_is;
    fields_are = is.fields_are;
    extents_are = is.extents_are;
    texts_are = texts_kept set.extents set.texts same is.texts_are;
    threes_are = is.threes_are;
  }

  pub sets_kept : (rows : List DirectoryRow) (sets : List DataSet) → ((track : ℕ) → InRuns (runs_of_sets sets) track → new track ≡ old track)
      → AreDataSets heads own_place old rows sets → AreDataSets heads own_place new rows sets
  sets_kept [] [] same are = tt
  sets_kept [] (set ∷ sets) same are = absurd are
  sets_kept (row ∷ rows) [] same are = absurd are
  sets_kept (row ∷ rows) (set ∷ sets) same are = (
    set_kept row set (λ track here. same track (append_left (map run_in set.extents) (runs_of_sets sets) track here)) are.0,
    sets_kept rows sets (λ track there. same track (append_right (map run_in set.extents) (runs_of_sets sets) track there)) are.1,
  )

-- ---- data sets of two lists of rows

pub record AreSetsOfTwo (heads : ℕ) (slots : Slots) (xs ys : List DirectoryRow) (sets : List DataSet) : Type 0 where
  pub front : List DataSet
  pub back : List DataSet
  pub sets_are : sets ≡ front ++ back
  pub front_are : AreDataSets heads own_place slots xs front
  pub back_are : AreDataSets heads own_place slots ys back

module _ (heads : ℕ) (slots : Slots) where
  pub of_two : (xs ys : List DirectoryRow) (sets : List DataSet) → AreDataSets heads own_place slots (xs ++ ys) sets → AreSetsOfTwo heads slots xs ys sets
  of_two [] ys sets are = record { front = []; back = sets; sets_are = refl; front_are = tt; back_are = are }
  of_two (x ∷ xs) ys [] are = absurd are
  of_two (x ∷ xs) ys (set ∷ sets) are =
      let rest = of_two xs ys sets are.1 in
      record {
        front = set ∷ rest.front;
        back = rest.back;
        sets_are = ap (λ (more : List DataSet). set ∷ more) rest.sets_are;
        front_are = (are.0, rest.front_are);
        back_are = rest.back_are;
      }

  pub both : (xs ys : List DirectoryRow) (front back : List DataSet) → AreDataSets heads own_place slots xs front → AreDataSets heads own_place slots ys back
      → AreDataSets heads own_place slots (xs ++ ys) (front ++ back)
  both [] ys [] back p q = q
  both [] ys (set ∷ front) back p q = absurd p
  both (x ∷ xs) ys [] back p q = absurd p
  both (x ∷ xs) ys (set ∷ front) back p q = (p.0, both xs ys front back p.1 q)
