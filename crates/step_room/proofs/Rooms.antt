-- Whether a VTOC has room for what a change leaves, on loaded volumes and in the model.
use Rattle.std.proofs.Common.{◌≡◌, ℕ, false, List, [], ◌∷◌, ◌++◌, length, All, Contains, refl, sym, ap, subst, ◌∙◌, arith}
use Rattle.std.specs.Prelude.{sum_by}
use Rattle.std.proofs.lemmas.List.Elements.{All-head}
use Rattle.std.proofs.lemmas.List.Sums.{sum-map}
use Rattle.ckd_image.specs.Device.{heads_of}
use Rattle.free_map.specs.declared.run.Run.{Run}
use Rattle.free_map.specs.Runs.{AreMaximalRuns}
use Rattle.free_map.proofs.Apart.{same_list}
use Rattle.volume_model.specs.Changed.{ChangesSets, IsFull, records_for as records_of_set, used_records}
use Rattle.volume_model.specs.Unit.{Text, DataSet, OnlineVolume, AreFreeRunsOf, fives_for, runs_of_sets}
use Rattle.vtoc_core.specs.declared.volume.Volume.{Volume}
use Rattle.vtoc_core.specs.Loaded.{records_for}
use Rattle.vtoc_layout.proofs.Distinct.{parted}
use Rattle.volume_change.specs.declared.change.Change.{Change}
use Rattle.volume_change.specs.declared.change.Change.TheVariants.{Repair, Put, Swap, Remove, Mark}
use Rattle.volume_change.specs.Runs.{IsFreeAfter}
use Rattle.step_plans.specs.vtoc_render.Next.{IsChanged, used_by, runs_of_rows}
use Rattle.step_plans.specs.unit_change.Described.{Describes}
use Rattle.step_plans.specs.unit_change.Changed.{AreGone, sets_put}
use Rattle.step_plans.proofs.unit_change.ChangedRows.{is_changed, parted_rows, lawful_put}
use Rattle.step_plans.proofs.unit_change.Describing.{runs_described, uses_described}
use Rattle.step_plans.specs.Plans.{IsSound}
use Rattle.step_room.specs.Room.{LackingChangesAreFull, FittingChangesAreNotFull, AreTaken}
use Rattle.step_room.proofs.Changing.{rows_go, described_go, one_gone, put_runs, put_records}
use Rattle.step_room.proofs.Counts.{exchanged, used_described, next_counted}
use Rattle.step_room.proofs.Left.{parts, in_second, free_after}

-- maximal runs of one set are one list
pub one_runs : (set : ℕ → Type 0) (a b : List Run) → AreMaximalRuns set a → AreMaximalRuns set b → a ≡ b
one_runs set a b one other =
    same_list 0 0 a b one.apart other.apart (λ track. (λ h. (other.exact track).0 ((one.exact track).1 h), λ h. (one.exact track).0 ((other.exact track).1 h)))

-- ---- the volume after a change, and what its data sets leave

module _ {loaded new : Volume} {volume : OnlineVolume} {change : Change} (sound : IsSound loaded) (is : Describes loaded volume) (changed : IsChanged loaded change new)
    (front gone back : List DataSet) (texts : List Text) (taken : AreGone change gone) (sets_were : volume.sets ≡ front ++ (gone ++ back)) where
  abbrev put : List DataSet
  put = sets_put (heads_of loaded.device) change texts

  rows_same : (parts sound is front gone back sets_were).middle ≡ changed.gone
  rows_same =
      let rows = parts sound is front gone back sets_were in
      one_gone loaded sound change rows.middle changed.gone
      (described_go (heads_of loaded.device) loaded.rows rows.middle gone change (in_second sound is front gone back sets_were) rows.middle_are taken)
      (rows_go loaded.rows new.rows changed.gone changed.put change changed.rows_are)

  gone_runs : runs_of_rows loaded changed.gone ≡ runs_of_sets gone
  gone_runs =
      let rows = parts sound is front gone back sets_were in
      sym (runs_described loaded rows.middle gone rows.middle_are ∙ ap (runs_of_rows loaded) rows_same)

  put_same : runs_of_rows loaded changed.put ≡ runs_of_sets put
  put_same = put_runs loaded loaded.rows new.rows changed.gone changed.put texts change changed.rows_are

  left_free : AreMaximalRuns (IsFreeAfter loaded.free (runs_of_sets gone) (runs_of_sets put)) new.free.runs
  left_free =
      subst (λ (runs : List Run). AreMaximalRuns (IsFreeAfter loaded.free (runs_of_sets gone) runs) new.free.runs) put_same
      (subst (λ (runs : List Run). AreMaximalRuns (IsFreeAfter loaded.free runs (runs_of_rows loaded changed.put)) new.free.runs) gone_runs changed.free_are)

  module _ (after : OnlineVolume) (usable : after.usable ≡ volume.usable) (vtoc : after.vtoc ≡ volume.vtoc)
      (sets_are : after.sets ≡ front ++ (sets_put (heads_of loaded.device) change texts ++ back)) where
    -- the free tracks are those of the volume after the change
    pub same_free : AreFreeRunsOf after new.free.runs
    same_free = free_after sound is front gone back sets_were after put usable vtoc sets_are new.free.runs left_free

    same_sets : sum_by records_of_set after.sets ≡ sum_by records_for new.rows
    same_sets =
        let rows = parts sound is front gone back sets_were in
        let split = parted_rows loaded.rows new.rows changed.gone changed.put change changed.rows_are in
        omega (
          arith,
          exchanged records_of_set volume.sets after.sets front gone put back sets_were sets_are,
          exchanged records_for loaded.rows new.rows split.front changed.gone changed.put split.back split.old_are split.new_are,
          uses_described (heads_of loaded.device) loaded.rows volume.sets is.sets_are,
          uses_described (heads_of loaded.device) rows.middle gone rows.middle_are,
          ap (sum_by records_for) rows_same,
          put_records (heads_of loaded.device) loaded.rows new.rows changed.gone changed.put texts change changed.rows_are,
        )

    -- and so are the records that are used
    pub same_used : after.fives ≡ new.fives → used_records after ≡ used_by new
    same_used fives = omega (arith, fives, sum-map records_of_set after.sets, same_sets)

-- ---- where room lacks

-- the data sets that go stand in one place
record AreInPlace (sets gone : List DataSet) : Type 0 where
  pub front : List DataSet
  pub back : List DataSet
  pub sets_are : sets ≡ front ++ (gone ++ back)

none_in_place : (sets gone : List DataSet) → gone ≡ [] → AreInPlace sets gone
none_in_place sets gone none = record { front = []; back = sets; sets_are = ap (λ (list : List DataSet). list ++ sets) (sym none) }

one_in_place : (sets gone : List DataSet) (set : DataSet) → gone ≡ set ∷ [] → Contains sets set → AreInPlace sets gone
one_in_place sets gone set one there =
    let at = parted sets set there in
    record { front = at.front; back = at.back; sets_are = at.is ∙ ap (λ (list : List DataSet). at.front ++ (list ++ at.back)) (sym one) }

in_place : (volume : OnlineVolume) (change : Change) (gone : List DataSet) → AreTaken volume change gone → AreInPlace volume.sets gone
in_place volume Repair gone taken = none_in_place volume.sets gone taken.0
in_place volume (Put row) gone taken = none_in_place volume.sets gone taken.0
in_place volume (Swap name row) gone taken =
    one_in_place volume.sets gone taken.0.0 taken.0.1
    (All-head (λ set. Contains volume.sets set) taken.0.0 [] (subst (λ (list : List DataSet). All (λ set. Contains volume.sets set) list) taken.0.1 taken.1))
in_place volume (Remove name) gone taken =
    one_in_place volume.sets gone taken.0.0 taken.0.1
    (All-head (λ set. Contains volume.sets set) taken.0.0 [] (subst (λ (list : List DataSet). All (λ set. Contains volume.sets set) list) taken.0.1 taken.1))
in_place volume Mark gone taken = absurd taken.0

pub lacking : LackingChangesAreFull
lacking loaded volume change gone texts sound is may taken (need, free, lacks) =
    let place = in_place volume change gone taken in
    let put = sets_put (heads_of loaded.device) change texts in
    let new = lacks.new in
    let after : OnlineVolume = record volume { sets = place.front ++ (put ++ place.back); repair = false; fives = new.fives } in
    let changes : ChangesSets volume after gone put = record {
      front = place.front;
      back = place.back;
      sets_were = place.sets_are;
      are_put = lawful_put (heads_of loaded.device) loaded texts change may;
      after_is = refl;
      fives =
          record {
            runs = new.free.runs;
            runs_are = same_free sound is lacks.changed place.front gone place.back texts taken.0 place.sets_are after refl refl refl;
            fives_are = lacks.changed.fives_are;
          };
    } in
    let used : used_records after ≡ used_by new = same_used sound is lacks.changed place.front gone place.back texts taken.0 place.sets_are after refl refl refl refl in
    let full : IsFull volume after need free = record {
      need_is = omega (arith, used, lacks.need_is, used_described loaded volume is);
      free_is = lacks.free_is ∙ is.free_dscbs_are;
      too_few = lacks.too_few;
    } in
    (after, need, free, changes, full)

-- ---- where there is room

pub fitting : FittingChangesAreNotFull
fitting loaded next volume change gone texts sound is may no_mark taken next_is (after, need, free, changes, full) =
    let changed : IsChanged loaded change next = is_changed loaded next change no_mark next_is in
    let usable : after.usable ≡ volume.usable = ap (λ (v : OnlineVolume). v.usable) changes.after_is in
    let vtoc : after.vtoc ≡ volume.vtoc = ap (λ (v : OnlineVolume). v.vtoc) changes.after_is in
    let sets : after.sets ≡ changes.front ++ (sets_put (heads_of loaded.device) change texts ++ changes.back) = ap (λ (v : OnlineVolume). v.sets) changes.after_is in
    let free_same : AreFreeRunsOf after next.free.runs =
    same_free sound is changed changes.front gone changes.back texts taken.0 changes.sets_were after usable vtoc sets in
    let fives : after.fives ≡ next.fives =
    changes.fives.fives_are ∙ ap (λ (runs : List Run). fives_for (length runs)) (one_runs _ changes.fives.runs next.free.runs changes.fives.runs_are free_same) ∙ sym changed.fives_are in
    let used : used_records after ≡ used_by next =
    same_used sound is changed changes.front gone changes.back texts taken.0 changes.sets_were after usable vtoc sets fives in
    omega (arith, used, full.need_is, full.free_is, full.too_few, next_counted loaded next change no_mark next_is, changed.dscbs_are, is.dscbs_are)
