-- A COPY as a whole: it is refused, or its data sets have their turns.
use Rattle.std.proofs.Common.{◌≡◌, ◌≢◌, ◌↔◌, IsTrue, All, Bool, true, false, inl, inr, ℕ, List, [], ◌∷◌, refl, sym, subst, ◌∙◌}
use Rattle.std.specs.Prelude.{Result, Some, slice_get, map}
use Rattle.std.proofs.lemmas.Bool.{false≢true}
use Rattle.by_rules.specs.declared.day.Day.{Day}
use Rattle.dasd_pool.specs.declared.pool.Pool.{Ghosts}
use Rattle.dsn_filter.specs.declared.dsn.Dsn.{Dsn}
use Rattle.dsn_filter.specs.declared.rename.Rename.{Rename}
use Rattle.enq_table.specs.declared.hold.Hold.{Hold}
use Rattle.sysin_lang.specs.declared.command.Filter.{Filter}
use Rattle.vol_label.specs.declared.serial.Serial.{Serial}
use Rattle.volume_model.specs.Unit.{OnlineVolume, online}
use Rattle.vtoc_core.specs.declared.volume.Volume.{Volume}
use Rattle.move_core.specs.declared.steps.Step.{Step}
use Rattle.dump_sets.specs.job_turns.job_copies.unit_steps.Loaded.{AreModels}
use Rattle.vtoc_core.specs.declared.volume.Row.{Row}
use Rattle.unit_load.specs.declared.state.UnitState.{UnitState}
use Rattle.dump_sets.specs.job_turns.job_copies.unit_steps.Plans.{IsLoadedAt, HasRow}
use Rattle.dump_sets.specs.job_turns.job_steps.unit_session.Sessions.{SessionView}
use Rattle.job_lines.specs.declared.message.Message.{Message}
use Rattle.job_lines.specs.declared.message.Message.TheVariants as messages
use Rattle.dump_sets.specs.job_turns.job_copies.job_select.Selection.{Selects}
use Rattle.dump_sets.specs.job_turns.job_steps.declared.cut.Cut.{Cut}
use Rattle.dump_sets.specs.job_turns.job_copies.declared.wish.Wish.{Wish}
use Rattle.dump_sets.specs.job_turns.Refusal.{IsUnitFor}
use Rattle.job_ops.specs.Copy.{uses_of, GoesBetween, CopiesBetween, CopiesSet, CopiesSets, IsCutCopy, request_of}
use Rattle.job_ops.specs.Copying.{MayBeCopied}
use Rattle.dump_sets.specs.job_turns.job_steps.Units.{facts_of, ForUnits}
use Rattle.dump_sets.specs.job_turns.Ends.{Ends}
use Rattle.dump_sets.specs.job_turns.Refusal.{Standing, standing_of, standing_in, Refuses, Lets}
use Rattle.dump_sets.specs.job_turns.Setting.{Setting, setting_of}
use Rattle.dump_sets.specs.job_turns.Turns.{Turns, AreCutTurns}
use Rattle.dump_sets.proofs.job_turns.SameSessions.{ends_as}
use Rattle.dump_sets.proofs.job_turns.Standing.{standings_are, volume_of}

module _ {P : Type 0} (pools : Ghosts P) (session : SessionView P) (held : List Hold) (today : Day) (filter : Filter) (serial to : Serial) (wish : Wish) (rename : Rename)
    (models : ForUnits pools session (AreModels session.units)) where
  abbrev setting : Setting
  setting = setting_of pools session held today

  abbrev uses : List Rattle.dump_sets.specs.job_turns.declared.units.UnitUse.UnitUse
  uses = uses_of wish serial to

  -- what refuses it as it was loaded refuses it
  pub refuses : (message : Message) → Refuses session.names session.room (map standing_in session.units) (uses_of wish serial to) message
      → ForUnits pools session (λ units. CopiesSets (setting_of pools session held today) filter serial to wish rename units [] (message ∷ []))
  refuses message refused told units settled =
      let same : map standing_of units ≡ map standing_in session.units = standings_are session.units units (models told units settled) in
      inl (message, subst (λ (standings : List Standing). Refuses session.names session.room standings uses message) (sym same) refused, refl, refl)

  module _ {count from unit : ℕ} (one : IsUnitFor count session.names session.room session.units (record { serial = serial; changes = wish.delete }) from)
      (other : IsUnitFor count session.names session.room session.units (record { serial = to; changes = true }) unit)
      (lets : Lets session.names session.room (map standing_in session.units) (uses_of wish serial to)) where
    goes : ForUnits pools session (λ units. (goes : GoesBetween (setting_of pools session held today) wish serial to units from unit)
        × (goes.source.device ≡ one.volume.device) × (goes.target.device ≡ other.volume.device))
    goes told units settled =
        let same : map standing_of units ≡ map standing_in session.units = standings_are session.units units (models told units settled) in
        let source = volume_of session.units units (models told units settled) from one.volume one.loaded in
        let target = volume_of session.units units (models told units settled) unit other.volume other.loaded in (
          record {
            lets = subst (λ (standings : List Standing). Lets session.names session.room standings uses) (sym same) lets;
            from_is = one.unit_is;
            to_is = other.unit_is;
            source = source.0;
            source_is = source.1;
            target = target.0;
            target_is = target.1;
          },
          source.2.device_is,
          target.2.device_is,
        )

    -- the devices are unlike
    pub unlike : {alike : Bool}
        → ((source target : Volume) → IsLoadedAt session.units from source → IsLoadedAt session.units unit target → (IsTrue alike ↔ (target.device ≡ source.device))) → alike ≡ false
        → ForUnits pools session (λ units. CopiesSets (setting_of pools session held today) filter serial to wish rename units [] (messages.UnlikeDevices ∷ []))
    unlike {alike} says differ told units settled =
        let found = goes told units settled in
        inr (inl (
          (
            from,
            unit,
            found.0,
            λ same. false≢true (sym differ ∙ (says one.volume other.volume one.loaded other.loaded).1 (sym found.2 ∙ same ∙ found.1)),
          ),
          refl,
          refl,
        ))

    module _ {alike : Bool} (says : (source target : Volume) → IsLoadedAt session.units from source → IsLoadedAt session.units unit target → (IsTrue alike ↔ (target.device ≡ source.device)))
        (like : alike ≡ true) (names : List Dsn)
        (selects : ForUnits pools session (λ units. (volume : OnlineVolume) → slice_get units from ≡ Some (online volume) → Selects filter today volume.sets names)) where
      pub devices : other.volume.device ≡ one.volume.device
      devices = (says one.volume other.volume one.loaded other.loaded).0 like

      between : ForUnits pools session (λ units. CopiesBetween (setting_of pools session held today) filter wish serial to units from unit names)
      between told units settled =
          let found = goes told units settled in
          record { goes = found.0; like = found.2 ∙ devices ∙ sym found.1; names_are = selects told units settled found.0.source found.0.source_is }

      pub none_selected : names ≡ []
          → ForUnits pools session (λ units. CopiesSets (setting_of pools session held today) filter serial to wish rename units [] (messages.NothingSelected ∷ []))
      none_selected none told units settled = inr (inr (from, unit, names, between told units settled, inl (none, refl, refl)))

      pub all_turns : {steps_before steps_after : List Step} {messages_before messages_after : List Message} (result : Result (SessionView P) (Cut P)) (given : List Dsn) → given ≡ names → names ≢ []
          → Ends pools (Turns (facts_of pools session) (CopiesSet (request_of (setting_of pools session held today) wish rename from unit)) given)
          (AreCutTurns (facts_of pools session) (CopiesSet (request_of (setting_of pools session held today) wish rename from unit)) given) session steps_before steps_after
          messages_before messages_after result
          → Ends pools (CopiesSets (setting_of pools session held today) filter serial to wish rename) (IsCutCopy (setting_of pools session held today) filter serial to wish rename) session
          steps_before steps_after messages_before messages_after result
      all_turns {steps_before} {steps_after} {messages_before} {messages_after} result given same some ends =
          ends_as pools result
          (λ told units settled steps said turns. inr (inr (
            from,
            unit,
            names,
            between told units settled,
            inr (
              some,
              subst (λ (list : List Dsn). Turns (facts_of pools session) (CopiesSet (request_of setting wish rename from unit)) list units steps said) same turns,
            ),
          )))
          (λ told units settled steps pending turns. inr (
            from,
            unit,
            names,
            between told units settled,
            subst (λ (list : List Dsn). AreCutTurns (facts_of pools session) (CopiesSet (request_of setting wish rename from unit)) list units steps pending) same turns,
          )) ends

-- ---- data sets that may be copied

pub may_be_copied : {count room from to : ℕ} {names : List Serial} {units : List UnitState} {delete alike : Bool} {serial other : Serial}
    → (one : IsUnitFor count names room units (record { serial = serial; changes = delete }) from) → (two : IsUnitFor count names room units (record { serial = other; changes = true }) to)
    → ((source target : Volume) → IsLoadedAt units from source → IsLoadedAt units to target → (IsTrue alike ↔ (target.device ≡ source.device))) → alike ≡ true → (taken : List Dsn)
    → ((volume : Volume) → IsLoadedAt units from volume → All (λ name. (row : Row) × HasRow volume name row) taken) → MayBeCopied delete room units from to taken
may_be_copied {count} {room} {from} {to} {names} {units} {delete} {alike} {serial} {other} one two says like taken there =
    let may = two.may refl in
    record {
      source = one.volume;
      source_loaded = one.loaded;
      may_source = one.may;
      target = may;
      like = (says one.volume may.volume one.loaded may.loaded).0 like;
      sets = there one.volume one.loaded;
    }
