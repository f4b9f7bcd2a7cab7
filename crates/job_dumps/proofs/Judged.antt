-- What is judged of a data set before its dump, and what the units say that were loaded.
use Rattle.std.proofs.Common.{◌≡◌, ℕ, zero, suc, List, [], ◌∷◌, All, Some, false, refl, sym, ap, subst, ◌∙◌}
use Rattle.std.specs.Prelude.{slice_get}
use Rattle.std.proofs.lemmas.List.Elements.{All-nil, All-cons}
use Rattle.std.proofs.lemmas.Option.{same_Some, none-some}
use Rattle.by_rules.specs.declared.day.Day.{Day}
use Rattle.ckd_image.specs.Device.{heads_of}
use Rattle.dasd_pool.specs.declared.pool.Pool.{Ghosts}
use Rattle.dsn_filter.specs.declared.dsn.Dsn.{Dsn}
use Rattle.enq_table.specs.declared.hold.Hold.{Hold}
use Rattle.volume_model.specs.Pinned.{IsNameOf, IsPinned}
use Rattle.volume_model.specs.Unit.{DataSet, OnlineVolume, UnitModel, online}
use Rattle.volume_model.proofs.Units.{same_online}
use Rattle.vtoc_core.specs.declared.volume.Row.{Row}
use Rattle.vtoc_core.specs.declared.volume.Volume.{Volume}
use Rattle.unit_load.specs.declared.state.UnitState.{UnitState}
use Rattle.unit_load.specs.declared.state.UnitState.TheVariants.{Online}
use Rattle.unit_load.specs.Kept.{IsKept}
use Rattle.move_core.specs.Facts.{Facts}
use Rattle.move_core.specs.Stands.{IsSettled}
use Rattle.job_turns.specs.job_copies.unit_change.Described.{Describes, DescribesSet}
use Rattle.job_turns.specs.job_copies.unit_steps.Loaded.{IsModel, AreModels}
use Rattle.job_turns.specs.job_copies.unit_steps.Plans.{IsLoadedAt, HasRow}
use Rattle.job_turns.proofs.job_copies.SetsOfRows.{named_set, described_row}
use Rattle.job_turns.specs.job_acts.Acting.{AreSound}
use Rattle.job_turns.proofs.job_acts.Loaded.{are_sound}
use Rattle.job_lines.specs.declared.message.Reason.{Reason}
use Rattle.job_lines.specs.declared.message.Reason.TheVariants as reasons
use Rattle.job_lines.specs.Order.{IsFirst}
use Rattle.job_turns.specs.job_steps.unit_session.Sessions.{SessionView}
use Rattle.job_turns.specs.job_steps.Units.{facts_of, ForUnits, IsSet}
use Rattle.job_dumps.specs.declared.wish.DumpWish.{DumpWish}
use Rattle.job_dumps.specs.Reasons.{PreventsAtFirst, first_reasons}

-- ---- the first reason

module _ (held : List Hold) (today : Day) (wish : DumpWish) (volume : OnlineVolume) (name : Dsn) (set : DataSet) where
  abbrev Lets : Reason → Type 0
  Lets reason = ¬ PreventsAtFirst held today wish volume name set reason

  -- no command moves it
  pub pinned_first : PreventsAtFirst held today wish volume name set reasons.Pinned → IsFirst (PreventsAtFirst held today wish volume name set) first_reasons reasons.Pinned
  pinned_first is = record {
    front = [];
    back = reasons.Held ∷ reasons.NotExpired ∷ [];
    list_is = refl;
    holds = is;
    none = All-nil Lets;
  }

  module _ (moves : ¬ PreventsAtFirst held today wish volume name set reasons.Pinned) where
    -- somebody holds it
    pub held_first : PreventsAtFirst held today wish volume name set reasons.Held → IsFirst (PreventsAtFirst held today wish volume name set) first_reasons reasons.Held
    held_first is = record {
      front = reasons.Pinned ∷ [];
      back = reasons.NotExpired ∷ [];
      list_is = refl;
      holds = is;
      none = All-cons Lets reasons.Pinned [] moves (All-nil Lets);
    }

    module _ (free : ¬ PreventsAtFirst held today wish volume name set reasons.Held) where
      -- it is spared
      pub spared_first : PreventsAtFirst held today wish volume name set reasons.NotExpired → IsFirst (PreventsAtFirst held today wish volume name set) first_reasons reasons.NotExpired
      spared_first is = record {
        front = reasons.Pinned ∷ reasons.Held ∷ [];
        back = [];
        list_is = refl;
        holds = is;
        none = All-cons Lets reasons.Pinned (reasons.Held ∷ []) moves (All-cons Lets reasons.Held [] free (All-nil Lets));
      }

      -- none of that holds
      pub none_first : ¬ PreventsAtFirst held today wish volume name set reasons.NotExpired
          → All (λ reason. ¬ PreventsAtFirst held today wish volume name set reason) first_reasons
      none_first gone =
          All-cons Lets reasons.Pinned (reasons.Held ∷ reasons.NotExpired ∷ []) moves
          (All-cons Lets reasons.Held (reasons.NotExpired ∷ []) free (All-cons Lets reasons.NotExpired [] gone (All-nil Lets)))

-- ---- pinned data sets

-- what isn't pinned on a volume as it was loaded isn't pinned on the volume
pub moves : {loaded : Volume} (volume : OnlineVolume) (set : DataSet) → Describes loaded volume → ¬ IsPinned (heads_of loaded.device) set.name set.fields set.extents
    → ¬ IsPinned (heads_of volume.device) set.name set.fields set.extents
moves {loaded} volume set is not = subst (λ (heads : ℕ). ¬ IsPinned heads set.name set.fields set.extents) (sym (ap heads_of is.device_is)) not

-- ---- units that were loaded

-- each volume was loaded from slots, and there is one that it describes
pub record AreKnown {P : Type 0} (pools : Ghosts P) (session : SessionView P) : Type 0 where
  pub sound : AreSound session.units
  pub online_at : ForUnits pools session
      (λ units. (unit : ℕ) (loaded : Volume) → IsLoadedAt session.units unit loaded → (volume : OnlineVolume) × (slice_get units unit ≡ Some (online volume)) × Describes loaded volume)

-- the model of a state
pub model_of : (states : List UnitState) (models : List UnitModel) (unit : ℕ) (state : UnitState) → AreModels states models → slice_get states unit ≡ Some state
    → (model : UnitModel) × (slice_get models unit ≡ Some model) × IsModel state model
model_of [] models unit state are at = absurd (none-some state at)
model_of (s ∷ states) [] unit state are at = absurd are
model_of (s ∷ states) (m ∷ models) zero state are at = (m, refl, subst (λ (x : UnitState). IsModel x m) (same_Some s state at) are.0)
model_of (s ∷ states) (m ∷ models) (suc unit) state are at = model_of states models unit state are.1 at

module _ {P : Type 0} (pools : Ghosts P) (session : SessionView P) where
  -- what stands of a session
  pub known_units : ((unit : ℕ) (state : UnitState) → slice_get session.units unit ≡ Some state
      → (slots : List ℕ) × IsKept false ((pools.shape session.pool).head unit) ((pools.shape session.pool).blocks unit) state slots)
      → (pools.tells → (facts : Facts) (models : List UnitModel) → facts.shape ≡ pools.shape session.pool → IsSettled facts (pools.disk session.pool).state models
      → AreModels session.units models)
      → AreKnown pools session
  known_units kept models = record {
    sound = are_sound (pools.shape session.pool).head (pools.shape session.pool).blocks session.units kept;
    online_at =
        λ told units settled unit loaded at.
        let found = model_of session.units units unit (Online loaded) (models told (facts_of pools session) units refl settled) at in
        (found.2.0, found.1 ∙ ap Some found.2.1, found.2.2);
  }

module _ {P : Type 0} {pools : Ghosts P} {session : SessionView P} (known : AreKnown pools session) {unit : ℕ} {loaded : Volume} (at : IsLoadedAt session.units unit loaded)
    {name : Dsn} {row : Row} (has : HasRow loaded name row) where
  -- the data set of a name that a row has is the one that the row describes
  pub described : ForUnits pools session
      (λ units. (volume : OnlineVolume) (set : DataSet) → IsSet units unit name volume set → Describes loaded volume × DescribesSet (heads_of loaded.device) row set)
  described told units settled volume set is =
      let found = known.online_at told units settled unit loaded at in
      let there : Describes loaded volume =
      subst (λ (v : OnlineVolume). Describes loaded v) (same_online found.0 volume (same_Some (online found.0) (online volume) (sym found.1 ∙ is.online_is))) found.2 in
      (there, described_row loaded volume (known.sound unit loaded at) there name row has set is.there is.name_is)

  -- and there is one
  pub set_there : ForUnits pools session (λ units. (volume : OnlineVolume) × (set : DataSet) × IsSet units unit name volume set)
  set_there told units settled =
      let found = known.online_at told units settled unit loaded at in
      let set = named_set loaded found.0 (known.sound unit loaded at) found.2 name row has in
      (found.0, set.0, record { online_is = found.1; there = set.1; name_is = subst (IsNameOf name) (sym set.2.name_is) has.name_is })
