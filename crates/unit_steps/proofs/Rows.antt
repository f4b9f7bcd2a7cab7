-- The rows of a loaded unit and its data sets.
use Rattle.std.proofs.Common.{◌≡◌, ◌≢◌, ◌⊎◌, inl, inr, ℕ, ◌≤◌, List, [], ◌∷◌, ◌++◌, map, take, All, Contains, true, false, refl, sym, ap, subst, ◌∙◌, arith}
use Rattle.std.specs.Prelude.{AllPairs}
use Rattle.std.proofs.lemmas.List.{append-nil}
use Rattle.std.proofs.lemmas.List.Elements.{All-nil, All-cons, All-head, All-tail, All-map, All-weaker, All-contains}
use Rattle.std.proofs.lemmas.List.Kept.{AllPairs-cons}
use Rattle.ckd_image.specs.Device.{heads_of}
use Rattle.dscb_rec.specs.declared.field.Extent.{Extent as Field}
use Rattle.free_map.specs.declared.run.Run.{Run}
use Rattle.free_map.specs.Free.{IsFree}
use Rattle.free_map.specs.Runs.{HasTrack}
use Rattle.volume_model.specs.declared.extent.ExtentField.{ExtentField}
use Rattle.volume_model.specs.Reads.{AreTexts, IsDataSet, AreDataSets}
use Rattle.volume_model.specs.Sound.{Slots}
use Rattle.volume_model.specs.Space.{is_run, run_of, overlap}
use Rattle.volume_model.specs.Unit.{DataSet, Extent, UnitModel, IsFreeTrack, run_in, tracks_of}
use Rattle.vtoc_check.proofs.Overlapping.{run_facts}
use Rattle.vtoc_core.specs.declared.volume.Row.{Row}
use Rattle.vtoc_core.specs.declared.volume.Volume.{Volume}
use Rattle.vtoc_core.specs.Loaded.{row_in, field_of, HasItsName}
use Rattle.vtoc_layout.specs.Layout.{AreApart, AreDistinct}
use Rattle.vtoc_layout.proofs.Distinct.{first_or_later, at_first, in_later, in_none, in_middle, one_of_map}
use Rattle.volume_change.specs.Runs.{runs_in}
use Rattle.unit_change.specs.vtoc_render.Next.{MayPut, runs_of_rows}
use Rattle.unit_change.proofs.vtoc_render.PlacedTracks.{none_shared}
use Rattle.unit_change.specs.Changed.{extents_of}
use Rattle.unit_change.specs.Described.{own_place, DescribesSets}
use Rattle.unit_change.proofs.Describing.{in_one_step, runs_in_row}
use Rattle.unit_change.proofs.OneOrder.{name_in}
use Rattle.move_core.specs.Steps.{extents_on}
use Rattle.unit_steps.proofs.Units.{IsOnlineUnit, IsSetOf}

-- ---- one by one

module _ (heads : ℕ) (slots : Slots) where
  set_in : (rows : List Row) (sets : List DataSet) (row : Row) → AreDataSets heads own_place slots (map row_in rows) sets → Contains rows row
      → (set : DataSet) × Contains sets set × IsDataSet heads own_place slots (row_in row) set
  set_in [] sets row are there = absurd (in_none row there)
  set_in (first ∷ rows) [] row are there = absurd are
  set_in (first ∷ rows) (set ∷ sets) row are there = by (set_in rows sets row are.1) (first_or_later first row rows there)
    where
      by : (Contains rows row → (other : DataSet) × Contains sets other × IsDataSet heads own_place slots (row_in row) other) → ((first ≡ row) ⊎ Contains rows row)
          → (other : DataSet) × Contains (set ∷ sets) other × IsDataSet heads own_place slots (row_in row) other
      by later (inl here) = (set, at_first set sets, subst (λ (r : Row). IsDataSet heads own_place slots (row_in r) set) here are.0)
      by later (inr behind) = let rest = later behind in (rest.0, in_later set rest.0 sets rest.1, rest.2)

  same_names : (rows : List Row) (sets : List DataSet) → AreDataSets heads own_place slots (map row_in rows) sets → map name_in (map row_in rows) ≡ map (λ set. set.name) sets
  same_names [] [] are = refl
  same_names [] (set ∷ sets) are = absurd are
  same_names (row ∷ rows) [] are = absurd are
  same_names (row ∷ rows) (set ∷ sets) are = λ i. sym are.0.name_is i ∷ same_names rows sets are.1 i

row_names : (rows : List Row) → map name_in (map row_in rows) ≡ map (λ row. name_in (row_in row)) rows
row_names [] = refl
row_names (row ∷ rows) = λ i. name_in (row_in row) ∷ row_names rows i

-- ---- a loaded unit

module _ {head : List ℕ} {blocks : ℕ} {slots : Slots} {volume : Volume} {model : UnitModel} (is : IsOnlineUnit head blocks slots volume model) where
  has_name : (row : Row) → Contains volume.rows row → row.name ≡ take 44 row.f1
  has_name row there = All-contains HasItsName volume.rows row is.loaded_is.volume.names_are there

  -- each row has a data set
  pub set_of : (row : Row) → Contains volume.rows row → (set : DataSet) × IsSetOf (heads_of volume.device) slots is.before.sets row set
  set_of row there =
      let found = set_in (heads_of volume.device) slots volume.rows is.before.sets row is.sets_are there in
      let set = found.2 in
      let extents : found.0.extents ≡ extents_of (heads_of volume.device) row = set.extents_are ∙ in_one_step (heads_of volume.device) row.extents in (
        found.0,
        record {
          there = found.1;
          name_is = set.name_is ∙ sym (has_name row there);
          fields_are = set.fields_are;
          extents_are = extents;
          texts_are = subst (λ (list : List Extent). AreTexts (heads_of volume.device) own_place slots (tracks_of list) found.0.texts) extents set.texts_are;
        },
      )

  -- of one name there is one data set, and one row
  one_set : (a b : DataSet) → Contains is.before.sets a → Contains is.before.sets b → a.name ≡ b.name → a ≡ b
  one_set a b here there same =
      one_of_map (λ (set : DataSet). set.name) is.before.sets a b (subst AreDistinct (same_names (heads_of volume.device) slots volume.rows is.before.sets is.sets_are) is.distinct) here there same

  pub one_row : (a b : Row) → Contains volume.rows a → Contains volume.rows b → a.name ≡ b.name → a ≡ b
  one_row a b here there same =
      one_of_map (λ (row : Row). name_in (row_in row)) volume.rows a b (subst AreDistinct (row_names volume.rows) is.distinct) here there
      (sym (has_name a here) ∙ same ∙ has_name b there)

  -- the one that goes has the name of its row
  pub gone_set : (set gone : DataSet) (front back : List DataSet) (list : List DataSet) → Contains is.before.sets set → list ≡ gone ∷ [] → is.before.sets ≡ front ++ (list ++ back)
      → gone.name ≡ set.name → list ≡ set ∷ []
  gone_set set gone front back list there list_is sets_were same =
      let listed : Contains is.before.sets gone =
      subst (λ (sets : List DataSet). Contains sets gone) (sym (sets_were ∙ ap (λ (l : List DataSet). front ++ (l ++ back)) list_is)) (in_middle front gone back) in
      list_is ∙ ap (λ (s : DataSet). s ∷ []) (one_set gone set listed there same)

  pub free_track : (track : ℕ) → IsFree volume.free track → IsFreeTrack is.before track
  free_track track free = (is.describes.free_are.exact track).1 free

-- no data set has a name that no row has
pub names_differ : (heads : ℕ) (name : List ℕ) (rows : List Row) (sets : List DataSet) → DescribesSets heads rows sets → All (λ row. row.name ≢ name) rows → All (λ set. set.name ≢ name) sets
names_differ heads name [] [] are none = All-nil (λ (set : DataSet). set.name ≢ name)
names_differ heads name [] (set ∷ sets) are none = absurd are
names_differ heads name (row ∷ rows) [] are none = absurd are
names_differ heads name (row ∷ rows) (set ∷ sets) are none =
    let other : row.name ≢ name = All-head (λ (r : Row). r.name ≢ name) row rows none in
    All-cons (λ (s : DataSet). s.name ≢ name) set sets (λ same. other (sym are.0.name_is ∙ same))
    (names_differ heads name rows sets are.1 (All-tail (λ (r : Row). r.name ≢ name) row rows none))

-- ---- the tracks of what is put

pub runs_on : (kind : ℕ) (to : List Run) → map run_in (extents_on kind to) ≡ to
runs_on kind [] = refl
runs_on kind (run ∷ to) = ap (λ (runs : List Run). run ∷ runs) (runs_on kind to)

run_some : (heads limit : ℕ) (field : ExtentField) → is_run heads limit field ≡ true → 1 ≤ (run_of heads field).len
run_some heads limit field is = (run_facts heads limit field is).1

abbrev pub AreSome : List Run → Type 0
AreSome runs = All (λ run. 1 ≤ run.len) runs

abbrev pub ShareNone : Run → Run → Type 0
ShareNone one other = (track : ℕ) → HasTrack one track → ¬ HasTrack other track

runs_some : (heads limit : ℕ) (extents : List Field) → All (λ extent. is_run heads limit (field_of extent) ≡ true) extents → AreSome (runs_in heads extents)
runs_some heads limit extents ranges =
    All-map (λ (run : Run). 1 ≤ run.len) (run_of heads) (map field_of extents)
    (All-map (λ field. 1 ≤ (run_of heads field).len) field_of extents
    (All-weaker (λ extent. is_run heads limit (field_of extent) ≡ true) (λ extent. 1 ≤ (run_of heads (field_of extent)).len) (λ extent is. run_some heads limit (field_of extent) is) extents ranges))

runs_apart : (runs : List Run) → AreApart runs → AllPairs ShareNone runs
runs_apart [] apart = λ i j d less within. absurd (omega (arith, within))
runs_apart (run ∷ runs) apart =
    AllPairs-cons ShareNone run runs (All-weaker (λ (other : Run). overlap run other ≡ false) (ShareNone run) (λ other none track here there. none_shared run other track none here there) runs apart.0)
    (runs_apart runs apart.1)

-- each run of what is put has tracks, and no two have one in common
pub put_runs : (volume : Volume) (gone : List Row) (row : Row) (to : List Run) → MayPut volume gone row → to ≡ runs_in (heads_of volume.device) row.extents → AreSome to × AllPairs ShareNone to
put_runs volume gone row to may is =
    let runs = runs_in (heads_of volume.device) row.extents in
    subst (λ (list : List Run). AreSome list × AllPairs ShareNone list) (sym is)
    (runs_some (heads_of volume.device) volume.usable row.extents may.ranges, runs_apart runs may.apart)

pub runs_of_one : (volume : Volume) (row : Row) → runs_of_rows volume (row ∷ []) ≡ runs_in (heads_of volume.device) row.extents
runs_of_one volume row = append-nil (runs_in (heads_of volume.device) row.extents)

-- the runs of a row's extents
pub runs_of_extents : (heads : ℕ) (row : Row) → map run_in (extents_of heads row) ≡ runs_in heads row.extents
runs_of_extents heads row = runs_in_row heads row.extents
