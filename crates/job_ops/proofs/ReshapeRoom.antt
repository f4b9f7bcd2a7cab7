-- Whether a VTOC has room for what a plan changes, on the loaded volumes and in the model.
use Rattle.std.proofs.Common.{◌≡◌, ◌≢◌, ℕ, List, [], ◌∷◌, All, Contains, inl, inr, refl, sym, subst, ◌∙◌}
use Rattle.std.proofs.lemmas.List.Elements.{All-head, All-nil}
use Rattle.volume_model.specs.Pinned.{IsNameOf}
use Rattle.volume_model.specs.Unit.{DataSet, OnlineVolume}
use Rattle.vtoc_core.specs.declared.volume.Volume.{Volume}
use Rattle.vtoc_layout.proofs.Distinct.{first_or_later, in_none, in_middle}
use Rattle.volume_change.specs.declared.change.Change.{Change}
use Rattle.volume_change.specs.declared.change.Change.TheVariants.{Repair, Swap, Mark}
use Rattle.dump_sets.specs.job_turns.job_copies.vtoc_render.Next.{IsNext}
use Rattle.dump_sets.specs.job_turns.job_copies.unit_change.Described.{Describes}
use Rattle.unit_load.specs.declared.state.UnitState.{UnitState}
use Rattle.dump_sets.specs.job_turns.job_copies.unit_steps.Plans.{IsLoadedAt, PlansRepair}
use Rattle.dump_sets.proofs.job_turns.job_copies.unit_steps.OneChange.{same_volume}
use Rattle.dump_sets.specs.job_turns.job_steps.unit_session.Planned.{LacksRecordsFor}
use Rattle.dump_sets.specs.job_turns.job_copies.step_plans.Plans.{IsSound}
use Rattle.dump_sets.specs.job_turns.job_copies.step_room.Room.{IsFullFor, LacksRoom, AreTaken, LackingChangesAreFull, FittingChangesAreNotFull}
use Rattle.dump_sets.specs.job_turns.job_steps.Carried.{HaveNext}
use Rattle.job_ops.specs.declared.reshaping.Reshape.{Reshape}
use Rattle.job_ops.proofs.ReshapeTargets.{PlansReshape, texts_to, put, taken, put_is}
use Rattle.dump_sets.proofs.job_turns.job_steps.unit_session.unit_steps.Small.{swap_no_mark}

-- ---- one change

-- the volume of one change lacks room
pub one_lacks : (units : List UnitState) (unit : ℕ) (change : Change) (changes : List (ℕ × Change)) (need free : ℕ) → changes ≡ (unit, change) ∷ [] → LacksRecordsFor units changes need free
    → (volume : Volume) × IsLoadedAt units unit volume × LacksRoom volume change
one_lacks units unit change changes need free are full =
    let there : Contains ((unit, change) ∷ []) (full.unit, full.change) =
    subst (λ (list : List (ℕ × Change)). Contains list (full.unit, full.change)) (sym full.changes_are ∙ are) (in_middle full.front (full.unit, full.change) full.back) in
    elim (first_or_later (unit, change) (full.unit, full.change) [] there) [
      | inl same ↦
          subst (λ (one : ℕ × Change). (volume : Volume) × IsLoadedAt units one.0 volume × LacksRoom volume one.1) (sym same) (full.volume, full.loaded, (need, free, full.full))
      | inr none ↦ absurd (in_none (full.unit, full.change) none)
    ]

abbrev HasNext : List UnitState → ℕ × Change → Type 0
HasNext units change = (volume : Volume) × (next : Volume) × IsLoadedAt units change.0 volume × IsNext volume change.1 next

-- there is a volume after it
pub one_next : (units : List UnitState) (unit : ℕ) (change : Change) (changes : List (ℕ × Change)) → changes ≡ (unit, change) ∷ [] → HaveNext units changes → HasNext units (unit, change)
one_next units unit change changes are all =
    All-head (HasNext units) (unit, change) [] (subst (λ (list : List (ℕ × Change)). All (HasNext units) list) are all)

-- the same of a volume that is known
pub lacks_at : (units : List UnitState) (unit : ℕ) (change : Change) (changes : List (ℕ × Change)) (volume : Volume) (need free : ℕ) → changes ≡ (unit, change) ∷ [] → IsLoadedAt units unit volume
    → LacksRecordsFor units changes need free → LacksRoom volume change
lacks_at units unit change changes volume need free are loaded full =
    let one = one_lacks units unit change changes need free are full in
    subst (λ (v : Volume). LacksRoom v change) (same_volume units unit one.0 volume one.1 loaded) one.2

pub next_at : (units : List UnitState) (unit : ℕ) (change : Change) (changes : List (ℕ × Change)) (volume : Volume) → changes ≡ (unit, change) ∷ [] → IsLoadedAt units unit volume
    → HaveNext units changes → (next : Volume) × IsNext volume change next
next_at units unit change changes volume are loaded all =
    let one = one_next units unit change changes are all in
    (one.1, subst (λ (v : Volume). IsNext v change one.1) (same_volume units unit one.0 volume one.2 loaded) one.3)

-- ---- what is to be changed

module _ {units : List UnitState} {reshape : Reshape} {changes : List (ℕ × Change)} (plan : PlansReshape units reshape changes)
    {volume : OnlineVolume} (sound : IsSound plan.swap.volume) (is : Describes plan.swap.volume volume) (set : DataSet) (there : Contains volume.sets set) (named : IsNameOf reshape.name set.name) where
  pub change_full : (need free : ℕ) → LackingChangesAreFull → LacksRecordsFor units changes need free → IsFullFor volume (set ∷ []) (put plan sound is set there named ∷ [])
  change_full need free law full =
      subst (IsFullFor volume (set ∷ [])) (put_is plan sound is set there named)
      (law plan.swap.volume volume (Swap reshape.name plan.swap.row) (set ∷ []) (texts_to reshape.layout set.texts) sound is plan.swap.may (taken plan sound is set there named)
      (lacks_at units reshape.unit (Swap reshape.name plan.swap.row) changes plan.swap.volume need free plan.swap.changes_are plan.swap.loaded full))

  pub change_fits : FittingChangesAreNotFull → HaveNext units changes → ¬ IsFullFor volume (set ∷ []) (put plan sound is set there named ∷ [])
  change_fits law all full =
      let next = next_at units reshape.unit (Swap reshape.name plan.swap.row) changes plan.swap.volume plan.swap.changes_are plan.swap.loaded all in
      law plan.swap.volume next.0 volume (Swap reshape.name plan.swap.row) (set ∷ []) (texts_to reshape.layout set.texts) sound is plan.swap.may (swap_no_mark reshape.name plan.swap.row)
      (taken plan sound is set there named) next.1 (subst (IsFullFor volume (set ∷ [])) (sym (put_is plan sound is set there named)) full)

-- ---- the free space

no_mark_repairs : Repair ≢ Mark
no_mark_repairs same = absurd (subst repairs same (tt {0}))
  where
    repairs : Change → Type 0
    repairs Repair = Unit {0}
    repairs _ = ⊥

none_taken : (volume : OnlineVolume) → AreTaken volume Repair []
none_taken volume = (refl, All-nil (Contains volume.sets))

module _ {units : List UnitState} {unit : ℕ} {changes : List (ℕ × Change)} (plan : PlansRepair units unit changes)
    {volume : OnlineVolume} (sound : IsSound plan.volume) (is : Describes plan.volume volume) where
  pub repair_full : (need free : ℕ) → LackingChangesAreFull → LacksRecordsFor units changes need free → IsFullFor volume [] []
  repair_full need free law full =
      law plan.volume volume Repair [] [] sound is (tt {0}) (none_taken volume) (lacks_at units unit Repair changes plan.volume need free plan.changes_are plan.loaded full)

  pub repair_fits : FittingChangesAreNotFull → HaveNext units changes → ¬ IsFullFor volume [] []
  repair_fits law all full =
      let next = next_at units unit Repair changes plan.volume plan.changes_are plan.loaded all in
      law plan.volume next.0 volume Repair [] [] sound is (tt {0}) no_mark_repairs (none_taken volume) next.1 full
