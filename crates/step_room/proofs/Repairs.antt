-- A repair states free space and changes nothing else, so the room for other changes stays.
use Rattle.std.proofs.Common.{◌≡◌, ◌≢◌, ◌⊎◌, inl, inr, ℕ, List, [], refl, sym, ap, subst, ◌∙◌, arith}
use Rattle.ckd_image.specs.declared.device.Device.{Device}
use Rattle.ckd_image.specs.Device.{heads_of}
use Rattle.free_map.specs.declared.run.Run.{Run}
use Rattle.free_map.specs.Free.{IsFree}
use Rattle.free_map.specs.Runs.{InRuns, AreMaximalRuns}
use Rattle.vtoc_core.specs.declared.volume.Row.{Row}
use Rattle.vtoc_core.specs.declared.volume.Volume.{Volume}
use Rattle.volume_change.specs.declared.change.Change.{Change}
use Rattle.volume_change.specs.declared.change.Change.TheVariants.{Repair, Swap, Mark}
use Rattle.volume_change.specs.Runs.{IsFreeAfter}
use Rattle.step_plans.specs.vtoc_render.Next.{IsChanged, IsNext, AreRowsAfter, used_by, runs_of_rows}
use Rattle.step_plans.proofs.unit_change.ChangedRows.{is_changed}
use Rattle.step_plans.proofs.unit_change.LoadedTracks.{all_counted}
use Rattle.step_plans.proofs.unit_steps.Blocks.{few, home_short}
use Rattle.step_plans.specs.Plans.{IsSound}
use Rattle.step_room.specs.Room.{LacksRoom, RepairsKeepRoom, RepairsKeepRoomForExtents, AreAlike, AlikeChangesHaveRoom}
use Rattle.step_room.proofs.Counts.{next_counted}
use Rattle.step_room.proofs.Alike.{one_use, no_marks_alike, alike_use}

-- ---- a repaired volume

module _ {loaded repaired : Volume} (repair : IsChanged loaded Repair repaired) where
  nothing_gone : runs_of_rows loaded repair.gone ≡ []
  nothing_gone = ap (runs_of_rows loaded) repair.rows_are.0

  nothing_put : runs_of_rows loaded repair.put ≡ []
  nothing_put = ap (runs_of_rows loaded) repair.rows_are.1

  stated : AreMaximalRuns (IsFreeAfter loaded.free [] []) repaired.free.runs
  stated =
      subst (λ (runs : List Run). AreMaximalRuns (IsFreeAfter loaded.free [] runs) repaired.free.runs) nothing_put
      (subst (λ (runs : List Run). AreMaximalRuns (IsFreeAfter loaded.free runs (runs_of_rows loaded repair.put)) repaired.free.runs) nothing_gone repair.free_are)

  pub free_to : (track : ℕ) → IsFree loaded.free track → IsFree repaired.free track
  free_to track free = (stated.exact track).0 (inl free, λ none. none)

  pub free_from : (track : ℕ) → IsFree repaired.free track → IsFree loaded.free track
  free_from track free = by ((stated.exact track).1 free).0
    where
      by : (IsFree loaded.free track ⊎ InRuns [] track) → IsFree loaded.free track
      by (inl stays) = stays
      by (inr none) = absurd none

-- ---- a change of it

module _ {loaded repaired new : Volume} {change : Change} (repair : IsChanged loaded Repair repaired) (changed : IsChanged repaired change new) where
  -- whether tracks are given back and taken from the one or the other
  free_same : (gone put : List Run) (runs : List Run) → AreMaximalRuns (IsFreeAfter repaired.free gone put) runs → AreMaximalRuns (IsFreeAfter loaded.free gone put) runs
  free_same gone put runs are = record { apart = are.apart; exact = λ track. (λ h. (are.exact track).0 (to track h.0, h.1), λ h. back track ((are.exact track).1 h)) }
    where
      to : (track : ℕ) → (IsFree loaded.free track ⊎ InRuns gone track) → IsFree repaired.free track ⊎ InRuns gone track
      to track (inl free) = inl (free_to repair track free)
      to track (inr given) = inr given

      from : (track : ℕ) → (IsFree repaired.free track ⊎ InRuns gone track) → IsFree loaded.free track ⊎ InRuns gone track
      from track (inl free) = inl (free_from repair track free)
      from track (inr given) = inr given

      back : (track : ℕ) → IsFreeAfter repaired.free gone put track → IsFreeAfter loaded.free gone put track
      back track h = (from track h.0, h.1)

  -- it is that change of the volume as it was
  pub as_it_was : IsChanged loaded change new
  as_it_was = record {
    gone = changed.gone;
    put = changed.put;
    rows_are = subst (λ (rows : List Row). AreRowsAfter rows change changed.gone changed.put new.rows) repair.rows_are.2 changed.rows_are;
    named = changed.named;
    free_are =
        free_same (runs_of_rows loaded changed.gone) (runs_of_rows loaded changed.put) new.free.runs
        (subst (λ (device : Device). AreMaximalRuns (IsFreeAfter repaired.free (runs_of_rows (record loaded { device = device }) changed.gone) (runs_of_rows (record loaded { device = device }) changed.put)) new.free.runs)
        repair.device_is changed.free_are);
    serial_is = changed.serial_is ∙ repair.serial_is;
    device_is = changed.device_is ∙ repair.device_is;
    usable_is = changed.usable_is ∙ repair.usable_is;
    vtoc_is = changed.vtoc_is ∙ repair.vtoc_is;
    repair_is = changed.repair_is;
    indexed_is = changed.indexed_is ∙ repair.indexed_is;
    dscbs_are = changed.dscbs_are ∙ repair.dscbs_are;
    fives_are = changed.fives_are;
  }

-- a change that needs no more than one that fits doesn't lack room
fits_as : (loaded repaired next : Volume) (change other : Change) → change ≢ Mark → IsNext loaded Repair repaired → IsNext loaded change next
    → ((new : Volume) → IsChanged loaded other new → used_by new ≡ used_by next) → ¬ LacksRoom repaired other
fits_as loaded repaired next change other no_mark stated next_is uses (need, free, lacks) =
    let left : IsChanged loaded change next = is_changed loaded next change no_mark next_is in
    omega (
      arith,
      uses lacks.new (as_it_was stated.0 lacks.changed),
      lacks.need_is,
      lacks.free_is,
      lacks.too_few,
      stated.1,
      stated.0.dscbs_are,
      left.dscbs_are,
      next_counted loaded next change no_mark next_is,
    )

-- nor does it where the free space isn't stated first
fits_itself : (loaded next : Volume) (change other : Change) → IsSound loaded → change ≢ Mark → IsNext loaded change next
    → ((new : Volume) → IsChanged loaded other new → used_by new ≡ used_by next) → ¬ LacksRoom loaded other
fits_itself loaded next change other sound no_mark next_is uses (need, free, lacks) =
    let left : IsChanged loaded change next = is_changed loaded next change no_mark next_is in
    omega (
      arith,
      uses lacks.new lacks.changed,
      lacks.need_is,
      lacks.free_is,
      lacks.too_few,
      all_counted sound.3.loaded (few sound.3) (home_short sound.3),
      left.dscbs_are,
      next_counted loaded next change no_mark next_is,
    )

pub repaired_fits : RepairsKeepRoom
repaired_fits loaded repaired next change sound no_mark stated next_is =
    fits_as loaded repaired next change change no_mark stated next_is
    (λ new changed. one_use loaded new next change sound changed (is_changed loaded next change no_mark next_is))

alike_uses : (loaded next new : Volume) (change like : Change) → IsSound loaded → IsNext loaded change next → AreAlike (heads_of loaded.device) change like → IsChanged loaded like new
    → used_by new ≡ used_by next
alike_uses loaded next new change like sound next_is alike changed =
    let left = is_changed loaded next change (no_marks_alike (heads_of loaded.device) change like alike) next_is in
    sym (alike_use loaded next new change like sound alike left changed)

-- changes that are alike, of the volume as it was loaded or once its free space is stated
pub alike_fits : AlikeChangesHaveRoom
alike_fits loaded later next change like sound (inl same) next_is alike lacks =
    fits_itself loaded next change like sound (no_marks_alike (heads_of loaded.device) change like alike) next_is
    (λ new changed. alike_uses loaded next new change like sound next_is alike changed) (subst (λ (volume : Volume). LacksRoom volume like) same lacks)
alike_fits loaded later next change like sound (inr stated) next_is alike lacks =
    fits_as loaded later next change like (no_marks_alike (heads_of loaded.device) change like alike) stated next_is
    (λ new changed. alike_uses loaded next new change like sound next_is alike changed) lacks

pub repaired_extents : RepairsKeepRoomForExtents
repaired_extents loaded repaired next name row like sound stated next_is named extents =
    alike_fits loaded repaired next (Swap name row) (Swap name like) sound (inr stated) next_is (refl, named, extents)
