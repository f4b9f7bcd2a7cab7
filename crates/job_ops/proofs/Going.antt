-- The data sets that a filter takes have their turns.
use Rattle.std.proofs.Common.{◌≡◌, ◌≢◌, inl, inr, ℕ, List, [], ◌∷◌, Some, refl, sym, subst}
use Rattle.std.specs.Prelude.{Result, slice_get, map}
use Rattle.by_rules.specs.declared.day.Day.{Day}
use Rattle.dasd_pool.specs.declared.pool.Pool.{Ghosts}
use Rattle.dsn_filter.specs.declared.dsn.Dsn.{Dsn}
use Rattle.enq_table.specs.declared.hold.Hold.{Hold}
use Rattle.sysin_lang.specs.declared.command.Filter.{Filter}
use Rattle.vol_label.specs.declared.serial.Serial.{Serial}
use Rattle.volume_model.specs.Unit.{OnlineVolume, online}
use Rattle.move_core.specs.declared.steps.Step.{Step}
use Rattle.dump_sets.specs.job_turns.job_copies.unit_steps.Loaded.{AreModels}
use Rattle.dump_sets.specs.job_turns.job_steps.unit_session.Sessions.{SessionView}
use Rattle.job_lines.specs.declared.message.Message.{Message}
use Rattle.job_lines.specs.declared.message.Message.TheVariants as messages
use Rattle.dump_sets.specs.job_turns.job_copies.job_select.Selection.{Selects}
use Rattle.dump_sets.specs.job_turns.job_steps.declared.cut.Cut.{Cut}
use Rattle.dump_sets.specs.job_turns.Refusal.{IsUnitFor}
use Rattle.dump_sets.specs.job_turns.job_steps.Units.{facts_of, ForUnits}
use Rattle.dump_sets.specs.job_turns.Ends.{Ends}
use Rattle.dump_sets.specs.job_turns.Refusal.{Standing, standing_of, standing_in, Refuses, Lets}
use Rattle.job_ops.specs.Sets.{changed, GoesThrough, OverSets, IsCutOverSets}
use Rattle.dump_sets.specs.job_turns.Setting.{setting_of}
use Rattle.dump_sets.specs.job_turns.Turns.{Action, Turns, AreCutTurns}
use Rattle.dump_sets.proofs.job_turns.SameSessions.{ends_as}
use Rattle.dump_sets.proofs.job_turns.Standing.{standings_are, volume_of}

module _ {P : Type 0} (pools : Ghosts P) (Turn : ℕ → Dsn → Action) (session : SessionView P) (held : List Hold) (today : Day) (filter : Filter) (serial : Serial) (models : ForUnits pools session (AreModels session.units)) where
  -- what refuses it as it was loaded refuses it
  pub refuses : (message : Message) → Refuses session.names session.room (map standing_in session.units) (changed serial ∷ []) message
      → ForUnits pools session (λ units. OverSets Turn (setting_of pools session held today) filter serial units [] (message ∷ []))
  refuses message refused told units settled =
      let same : map standing_of units ≡ map standing_in session.units = standings_are session.units units (models told units settled) in
      inl (message, subst (λ (standings : List Standing). Refuses session.names session.room standings (changed serial ∷ []) message) (sym same) refused, refl, refl)

  module _ {count unit : ℕ} (is : IsUnitFor count session.names session.room session.units (changed serial) unit)
      (lets : Lets session.names session.room (map standing_in session.units) (changed serial ∷ [])) (names : List Dsn)
      (selects : ForUnits pools session (λ units. (volume : OnlineVolume) → slice_get units unit ≡ Some (online volume) → Selects filter today volume.sets names)) where
    goes : ForUnits pools session (λ units. GoesThrough (setting_of pools session held today) filter serial units unit names)
    goes told units settled =
        let same : map standing_of units ≡ map standing_in session.units = standings_are session.units units (models told units settled) in
        let found = volume_of session.units units (models told units settled) unit is.volume is.loaded in
        record {
          lets = subst (λ (standings : List Standing). Lets session.names session.room standings (changed serial ∷ [])) (sym same) lets;
          unit_is = is.unit_is;
          volume = found.0;
          online_is = found.1;
          names_are = selects told units settled found.0 found.1;
        }

    pub none_selected : names ≡ [] → ForUnits pools session (λ units. OverSets Turn (setting_of pools session held today) filter serial units [] (messages.NothingSelected ∷ []))
    none_selected none told units settled = inr (unit, names, goes told units settled, inl (none, refl, refl))

    pub all_turns : {steps_before steps_after : List Step} {messages_before messages_after : List Message} (result : Result (SessionView P) (Cut P)) (given : List Dsn) → given ≡ names → names ≢ []
        → Ends pools (Turns (facts_of pools session) (Turn unit) given) (AreCutTurns (facts_of pools session) (Turn unit) given) session steps_before steps_after
        messages_before messages_after result
        → Ends pools (OverSets Turn (setting_of pools session held today) filter serial) (IsCutOverSets Turn (setting_of pools session held today) filter serial) session steps_before steps_after
        messages_before messages_after result
    all_turns {steps_before} {steps_after} {messages_before} {messages_after} result given same some ends =
        ends_as pools result
        (λ told units settled steps said turns. inr (
          unit,
          names,
          goes told units settled,
          inr (some, subst (λ (list : List Dsn). Turns (facts_of pools session) (Turn unit) list units steps said) same turns),
        ))
        (λ told units settled steps pending turns. inr (
          unit,
          names,
          goes told units settled,
          subst (λ (list : List Dsn). AreCutTurns (facts_of pools session) (Turn unit) list units steps pending) same turns,
        )) ends
