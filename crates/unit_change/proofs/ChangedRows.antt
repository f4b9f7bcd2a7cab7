-- The data sets before and after a change, by the rows.
use Rattle.std.proofs.Common.{◌≡◌, ◌≢◌, ℕ, ◌≤◌, List, [], ◌∷◌, ◌++◌, length, map, All, refl, sym, ap, subst, ◌∙◌, arith}
use Rattle.std.proofs.lemmas.List.{length-map}
use Rattle.std.proofs.lemmas.List.Elements.{All-nil, All-cons, All-contains}
use Rattle.free_map.specs.declared.run.Run.{Run}
use Rattle.free_map.specs.Runs.{InRuns}
use Rattle.volume_model.specs.Changed.{threes_for, IsPut}
use Rattle.volume_model.specs.Directory.{DirectoryRow}
use Rattle.volume_model.specs.Pinned.{IsNameOf}
use Rattle.volume_model.specs.Reads.{extent_in, AreTexts, IsDataSet, AreDataSets}
use Rattle.volume_model.specs.Sound.{Slots}
use Rattle.volume_model.specs.Unit.{Text, DataSet, tracks_of}
use Rattle.vtoc_core.specs.declared.volume.Row.{Row}
use Rattle.vtoc_core.specs.declared.volume.Volume.{Volume}
use Rattle.vtoc_core.specs.Loaded.{row_in, field_of, HasItsName}
use Rattle.vtoc_layout.proofs.Distinct.{in_middle}
use Rattle.volume_change.specs.declared.change.Change.{Change}
use Rattle.volume_change.specs.declared.change.Change.TheVariants.{Repair, Put, Swap, Remove, Mark}
use Rattle.volume_change.specs.Runs.{runs_in}
use Rattle.vtoc_render.specs.Next.{MayChange, IsRowPut, AreRowsAfter, IsChanged, IsNext}
use Rattle.vtoc_render.proofs.NextRows.{fields_same}
use Rattle.unit_change.specs.Described.{own_place}
use Rattle.unit_change.specs.Changed.{extents_of, set_put, sets_put, AreGone, AreTextsPut}
use Rattle.unit_change.proofs.Describing.{in_one_step, runs_in_row}
use Rattle.unit_change.proofs.Kept.{texts_kept}

pub is_changed : (old new : Volume) (change : Change) → change ≢ Mark → IsNext old change new → IsChanged old change new
is_changed old new Repair no_mark is = is.0
is_changed old new (Put row) no_mark is = is.0
is_changed old new (Swap name row) no_mark is = is.0
is_changed old new (Remove name) no_mark is = is.0
is_changed old new Mark no_mark is = absurd (no_mark refl)

-- ---- rows that stay

-- the rows that stay stand before and behind what goes and what is put
pub record AreParted (old new gone put : List Row) : Type 0 where
  pub front : List Row
  pub back : List Row
  pub old_are : old ≡ front ++ (gone ++ back)
  pub new_are : new ≡ front ++ (put ++ back)

pub parted_rows : (old new gone put : List Row) (change : Change) → AreRowsAfter old change gone put new → AreParted old new gone put
parted_rows old new gone put Repair is = record {
  front = [];
  back = old;
  old_are = ap (λ (rows : List Row). rows ++ old) (sym is.0);
  new_are = is.2 ∙ ap (λ (rows : List Row). rows ++ old) (sym is.1);
}
parted_rows old new gone put (Put given) is = record {
  front = is.0;
  back = is.1;
  old_are = is.6 ∙ ap (λ (rows : List Row). is.0 ++ (rows ++ is.1)) (sym is.3);
  new_are = is.7 ∙ ap (λ (rows : List Row). is.0 ++ (rows ++ is.1)) (sym is.4);
}
parted_rows old new gone put (Swap name given) is = record {
  front = is.0;
  back = is.1;
  old_are = is.8 ∙ ap (λ (rows : List Row). is.0 ++ (rows ++ is.1)) (sym is.4);
  new_are = is.9 ∙ ap (λ (rows : List Row). is.0 ++ (rows ++ is.1)) (sym is.5);
}
parted_rows old new gone put (Remove name) is = record {
  front = is.0;
  back = is.1;
  old_are = is.6 ∙ ap (λ (rows : List Row). is.0 ++ (rows ++ is.1)) (sym is.3);
  new_are = is.7 ∙ ap (λ (rows : List Row). is.0 ++ (rows ++ is.1)) (sym is.4);
}
parted_rows old new gone put Mark is = absurd is

-- ---- what goes

record IsOneSet (heads : ℕ) (slots : Slots) (row : DirectoryRow) (sets : List DataSet) : Type 0 where
  pub set : DataSet
  pub sets_are : sets ≡ set ∷ []
  pub is : IsDataSet heads own_place slots row set

no_set : (heads : ℕ) (slots : Slots) (sets : List DataSet) → AreDataSets heads own_place slots [] sets → sets ≡ []
no_set heads slots [] are = refl
no_set heads slots (set ∷ sets) are = absurd are

one_set : (heads : ℕ) (slots : Slots) (row : DirectoryRow) (sets : List DataSet) → AreDataSets heads own_place slots (row ∷ []) sets → IsOneSet heads slots row sets
one_set heads slots row [] are = absurd are
one_set heads slots row (set ∷ sets) are = record { set = set; sets_are = ap (λ (more : List DataSet). set ∷ more) (no_set heads slots sets are.1); is = are.0 }

-- a row that stands between others has its name
named_between : (rows front back : List Row) (row : Row) → All HasItsName rows → rows ≡ front ++ (row ∷ back) → HasItsName row
named_between rows front back row named same =
    All-contains HasItsName (front ++ row ∷ back) row (subst (All HasItsName) same named) (in_middle front row back)

-- the data sets of some rows
abbrev AreOf : ℕ → Slots → List DataSet → List Row → Type 0
AreOf heads slots sets rows = AreDataSets heads own_place slots (map row_in rows) sets

pub gone_is : (heads : ℕ) (slots : Slots) (old new gone put : List Row) (sets : List DataSet) (change : Change) → All HasItsName old → AreRowsAfter old change gone put new
    → AreDataSets heads own_place slots (map row_in gone) sets → AreGone change sets
gone_is heads slots old new gone put sets Repair named is are = no_set heads slots sets (subst (AreOf heads slots sets) is.0 are)
gone_is heads slots old new gone put sets (Put given) named is are = no_set heads slots sets (subst (AreOf heads slots sets) is.3 are)
gone_is heads slots old new gone put sets (Swap name given) named is are =
    let one = one_set heads slots (row_in is.2) sets (subst (AreOf heads slots sets) is.4 are) in
    (one.set, one.sets_are, one.is.name_is ∙ sym (named_between old is.0 is.1 is.2 named is.8) ∙ is.6)
gone_is heads slots old new gone put sets (Remove name) named is are =
    let one = one_set heads slots (row_in is.2) sets (subst (AreOf heads slots sets) is.3 are) in
    let same : one.set.name ≡ is.2.name = one.is.name_is ∙ sym (named_between old is.0 is.1 is.2 named is.6) in
    (one.set, one.sets_are, subst (IsNameOf name) (sym same) is.5)
gone_is heads slots old new gone put sets Mark named is are = absurd is

-- ---- what is put

put_is : (heads : ℕ) (slots : Slots) (given written : Row) (texts : List Text) → IsRowPut given written → HasItsName written
    → AreTexts heads own_place slots (tracks_of (extents_of heads given)) texts → IsDataSet heads own_place slots (row_in written) (set_put heads given texts)
put_is heads slots given written texts is named are = record {
  name_is = sym is.name_is ∙ named;
  fields_are = sym is.fields_are;
  extents_are =
      sym (in_one_step heads given.extents) ∙ ap (map (extent_in heads)) (sym (fields_same 0 given.extents)) ∙ ap (λ extents. map (extent_in heads) (map field_of extents)) (sym is.extents_are);
  texts_are = are;
  threes_are = sym is.threes_are;
}

pub put_are : (heads : ℕ) (slots : Slots) (old new gone put : List Row) (texts : List Text) (change : Change) → All HasItsName new → AreRowsAfter old change gone put new
    → AreTextsPut heads slots change texts → AreDataSets heads own_place slots (map row_in put) (sets_put heads change texts)
put_are heads slots old new gone put texts Repair named is are = subst (AreOf heads slots []) (sym is.1) tt
put_are heads slots old new gone put texts (Put given) named is are =
    subst (AreOf heads slots (set_put heads given texts ∷ [])) (sym is.4)
    (put_is heads slots given is.2 texts is.5 (named_between new is.0 is.1 is.2 named is.7) are, tt)
put_are heads slots old new gone put texts (Swap name given) named is are =
    subst (AreOf heads slots (set_put heads given texts ∷ [])) (sym is.5)
    (put_is heads slots given is.3 texts is.7 (named_between new is.0 is.1 is.3 named is.9) are, tt)
put_are heads slots old new gone put texts (Remove name) named is are = subst (AreOf heads slots []) (sym is.4) tt
put_are heads slots old new gone put texts Mark named is are = absurd is

is_put : (heads : ℕ) (row : Row) (texts : List Text) → length row.extents ≤ 16 → All IsPut (set_put heads row texts ∷ [])
is_put heads row texts few =
    let long : length (extents_of heads row) ≡ length row.extents = length-map row.extents (λ extent. extent_in heads (field_of extent)) in
    All-cons IsPut (set_put heads row texts) [] (record { few = omega (arith, few, long); threes_are = ap threes_for (sym long) }) (All-nil IsPut)

pub lawful_put : (heads : ℕ) (volume : Volume) (texts : List Text) (change : Change) → MayChange volume change → All IsPut (sets_put heads change texts)
lawful_put heads volume texts Repair may = All-nil IsPut
lawful_put heads volume texts (Put row) may = is_put heads row texts may.0.few
lawful_put heads volume texts (Swap name row) may = is_put heads row texts may.1.3.few
lawful_put heads volume texts (Remove name) may = All-nil IsPut
lawful_put heads volume texts Mark may = All-nil IsPut

-- the texts that stand on the tracks of what is put stay there where none of these tracks changes
row_texts_kept : (heads : ℕ) (old new : Slots) (row : Row) (texts : List Text) → ((track : ℕ) → InRuns (runs_in heads row.extents) track → new track ≡ old track)
    → AreTexts heads own_place old (tracks_of (extents_of heads row)) texts → AreTexts heads own_place new (tracks_of (extents_of heads row)) texts
row_texts_kept heads old new row texts same are =
    texts_kept heads old new (extents_of heads row) texts (λ track here. same track (subst (λ (runs : List Run). InRuns runs track) (runs_in_row heads row.extents) here)) are

-- each track of what is put passes this
abbrev pub OnPut : ℕ → Change → (ℕ → Type 0) → Type 0
OnPut heads (Put row) P = (track : ℕ) → InRuns (runs_in heads row.extents) track → P track
OnPut heads (Swap name row) P = (track : ℕ) → InRuns (runs_in heads row.extents) track → P track
OnPut heads _ P = Unit {0}

pub put_texts_kept : (heads : ℕ) (old new : Slots) (texts : List Text) (change : Change) → OnPut heads change (λ track. new track ≡ old track) → AreTextsPut heads old change texts
    → AreTextsPut heads new change texts
put_texts_kept heads old new texts Repair same are = are
put_texts_kept heads old new texts (Put row) same are = row_texts_kept heads old new row texts same are
put_texts_kept heads old new texts (Swap name row) same are = row_texts_kept heads old new row texts same are
put_texts_kept heads old new texts (Remove name) same are = are
put_texts_kept heads old new texts Mark same are = are
