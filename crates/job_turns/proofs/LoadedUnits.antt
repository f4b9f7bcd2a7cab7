-- What is known of units that were loaded.
use Rattle.std.proofs.Common.{◌≡◌, ℕ, zero, suc, List, [], ◌∷◌, Some, refl, sym, ap, subst, ◌∙◌, false}
use Rattle.std.specs.Prelude.{slice_get}
use Rattle.std.proofs.lemmas.Option.{same_Some, none-some}
use Rattle.dasd_pool.specs.declared.pool.Pool.{Ghosts}
use Rattle.volume_model.specs.Unit.{OnlineVolume, UnitModel, online}
use Rattle.volume_model.proofs.Units.{same_online}
use Rattle.vtoc_core.specs.declared.volume.Volume.{Volume}
use Rattle.job_copies.specs.unit_change.Described.{Describes}
use Rattle.unit_load.specs.declared.state.UnitState.{UnitState}
use Rattle.unit_load.specs.declared.state.UnitState.TheVariants.{Online}
use Rattle.unit_load.specs.Kept.{IsKept}
use Rattle.move_core.specs.Facts.{Facts}
use Rattle.move_core.specs.Stands.{IsSettled}
use Rattle.job_copies.specs.unit_steps.Loaded.{IsModel, AreModels}
use Rattle.job_copies.specs.unit_steps.Plans.{IsLoadedAt}
use Rattle.job_acts.specs.job_steps.unit_session.Sessions.{SessionView}
use Rattle.job_acts.specs.job_steps.Units.{facts_of, ForUnits}
use Rattle.job_acts.specs.Acting.{AreSound}
use Rattle.job_acts.proofs.Loaded.{are_sound}

-- each volume was loaded from slots, and describes what the pool stands for there; and where one was loaded, there is one
pub record AreKnown {P : Type 0} (pools : Ghosts P) (session : SessionView P) : Type 0 where
  pub sound : AreSound session.units
  pub described : ForUnits pools session
      (λ units. (unit : ℕ) (loaded : Volume) (volume : OnlineVolume) → IsLoadedAt session.units unit loaded → slice_get units unit ≡ Some (online volume) → Describes loaded volume)
  pub online_at : ForUnits pools session
      (λ units. (unit : ℕ) (loaded : Volume) → IsLoadedAt session.units unit loaded → (volume : OnlineVolume) × (slice_get units unit ≡ Some (online volume)) × Describes loaded volume)

model_of : (states : List UnitState) (models : List UnitModel) (unit : ℕ) (state : UnitState) → AreModels states models → slice_get states unit ≡ Some state
    → (model : UnitModel) × (slice_get models unit ≡ Some model) × IsModel state model
model_of [] models unit state are at = absurd (none-some state at)
model_of (s ∷ states) [] unit state are at = absurd are
model_of (s ∷ states) (m ∷ models) zero state are at = (m, refl, subst (λ (x : UnitState). IsModel x m) (same_Some s state at) are.0)
model_of (s ∷ states) (m ∷ models) (suc unit) state are at = model_of states models unit state are.1 at

module _ {P : Type 0} (pools : Ghosts P) (session : SessionView P) where
  pub known_units : ((unit : ℕ) (state : UnitState) → slice_get session.units unit ≡ Some state
      → (slots : List ℕ) × IsKept false ((pools.shape session.pool).head unit) ((pools.shape session.pool).blocks unit) state slots)
      → (pools.tells → (facts : Facts) (models : List UnitModel) → facts.shape ≡ pools.shape session.pool → IsSettled facts (pools.disk session.pool).state models
      → AreModels session.units models)
      → AreKnown pools session
  known_units kept models = record {
    sound = are_sound (pools.shape session.pool).head (pools.shape session.pool).blocks session.units kept;
    described =
        λ told units settled unit loaded volume at there.
        let found = online_in told units settled unit loaded at in
        subst (λ (v : OnlineVolume). Describes loaded v) (same_online found.0 volume (same_Some (online found.0) (online volume) (sym found.1 ∙ there))) found.2;
    online_at = online_in;
  }
    where
      online_in : ForUnits pools session
          (λ units. (unit : ℕ) (loaded : Volume) → IsLoadedAt session.units unit loaded → (volume : OnlineVolume) × (slice_get units unit ≡ Some (online volume)) × Describes loaded volume)
      online_in told units settled unit loaded at =
          let found = model_of session.units units unit (Online loaded) (models told (facts_of pools session) units refl settled) at in
          (found.2.0, found.1 ∙ ap Some found.2.1, found.2.2)
