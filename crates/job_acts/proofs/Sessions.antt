-- Sessions behind one another, and what a cut leaves of them.
use Rattle.std.proofs.Common.{◌≡◌, ◌⊎◌, inl, inr, List, Some, None, refl, sym, subst, ◌∙◌}
use Rattle.dasd_pool.specs.Disk.{State}
use Rattle.dasd_pool.specs.declared.pool.Pool.{Ghosts}
use Rattle.volume_model.specs.Unit.{UnitModel}
use Rattle.move_core.specs.Facts.{Facts, no_inputs}
use Rattle.move_core.specs.Stands.{IsSettled}
use Rattle.job_steps.specs.unit_session.Sessions.{SessionView, IsSameSession}
use Rattle.job_steps.specs.unit_session.Planned.{PlannedView}
use Rattle.job_steps.specs.declared.cut.Cut.{Cut}
use Rattle.job_steps.specs.declared.cut.Cut.TheVariants as cuts
use Rattle.job_steps.specs.Carried.{pending_cut, IsCutBefore, IsCutIn, AreAfter}
use Rattle.job_steps.specs.Units.{facts_of, ForUnits}
use Rattle.job_acts.specs.Acting.{KeepsFacts, CutKeepsFacts}

module _ {P : Type 0} (pools : Ghosts P) where
  pub no_change : (session : SessionView P) → KeepsFacts pools session session
  no_change session = record { shape = refl; names = refl; room = refl }

  pub keeps_same : {old new : SessionView P} → IsSameSession pools old new → KeepsFacts pools old new
  keeps_same {old} {new} same = record { shape = same.shape; names = same.names; room = same.room }

  pub keeps_then : {old mid new : SessionView P} → KeepsFacts pools old mid → KeepsFacts pools mid new → KeepsFacts pools old new
  keeps_then {old} {mid} {new} one other = record {
    shape = other.shape ∙ one.shape;
    names = other.names ∙ one.names;
    room = other.room ∙ one.room;
  }

  pub same_itself : (session : SessionView P) → IsSameSession pools session session
  same_itself session = record { shape = refl; state = λ told. refl; room = refl; names = refl; units = refl; vtocs = refl }

  pub same_then : {old mid new : SessionView P} → IsSameSession pools old mid → IsSameSession pools mid new → IsSameSession pools old new
  same_then {old} {mid} {new} one other = record {
    shape = other.shape ∙ one.shape;
    state = λ told. other.state told ∙ one.state told;
    room = other.room ∙ one.room;
    names = other.names ∙ one.names;
    units = other.units ∙ one.units;
    vtocs = other.vtocs ∙ one.vtocs;
  }

  pub cut_facts_then : {old new : SessionView P} (cut : Cut P) → KeepsFacts pools old new → CutKeepsFacts pools new cut → CutKeepsFacts pools old cut
  cut_facts_then (cuts.Halted broken) facts keeps = tt
  cut_facts_then (cuts.Short kept) facts keeps = keeps_then facts keeps

  pub cut_before : (session : SessionView P) (cut : Cut P) → IsCutBefore pools session cut → CutKeepsFacts pools session cut × (pending_cut cut ≡ None)
  cut_before session (cuts.Halted broken) is = (tt, is)
  cut_before session (cuts.Short kept) is = (keeps_same is, refl)

  pub cut_in : (planned : PlannedView P) (cut : Cut P) → IsCutIn pools planned cut → CutKeepsFacts pools planned.session cut × ((pending_cut cut ≡ None) ⊎ (pending_cut cut ≡ Some planned.plan.step))
  cut_in planned (cuts.Halted broken) is = (tt, inr is)
  cut_in planned (cuts.Short kept) is = (keeps_same is, inl refl)

  pub after_facts : (planned : PlannedView P) (session : SessionView P) → AreAfter pools planned session → KeepsFacts pools planned.session session
  after_facts planned session is = record { shape = is.shape; names = is.names; room = is.room }

  -- ---- what a pool stands for

  pub facts_kept : {old new : SessionView P} → KeepsFacts pools old new → facts_of pools new ≡ facts_of pools old
  facts_kept {old} {new} keeps = λ i. record { shape = keeps.shape i; names = keeps.names i; room = keeps.room i; inputs = no_inputs }

  settled_as : (old new : SessionView P) (units : List UnitModel) → facts_of pools old ≡ facts_of pools new → (pools.disk old.pool).state ≡ (pools.disk new.pool).state
      → IsSettled (facts_of pools old) (pools.disk old.pool).state units → IsSettled (facts_of pools new) (pools.disk new.pool).state units
  settled_as old new units facts state settled =
      subst (λ (s : State). IsSettled (facts_of pools new) s units) state (subst (λ (f : Facts). IsSettled f (pools.disk old.pool).state units) facts settled)

  pub for_new : {old new : SessionView P} → IsSameSession pools old new → {Holds : List UnitModel → Type 0} → ForUnits pools old Holds → ForUnits pools new Holds
  for_new {old} {new} same {Holds} holds told units settled = holds told units (settled_as new old units (facts_kept (keeps_same same)) (same.state told) settled)

  pub for_old : {old new : SessionView P} → IsSameSession pools old new → {Holds : List UnitModel → Type 0} → ForUnits pools new Holds → ForUnits pools old Holds
  for_old {old} {new} same {Holds} holds told units settled =
      holds told units (settled_as old new units (sym (facts_kept (keeps_same same))) (sym (same.state told)) settled)
