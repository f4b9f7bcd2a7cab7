-- Whether a DUMP is refused, and what it goes on with.
use Rattle.std.proofs.Common.{◌≡◌, ◌≢◌, inl, inr, ℕ, ◌<◌, List, [], ◌∷◌, ◌++◌, length, map, All, Some, refl, sym, subst, ◌∙◌, arith}
use Rattle.std.specs.Prelude.{AllPairs, Result, Ok, Err, IfOk, IfErr, slice_get}
use Rattle.std.proofs.lemmas.List.{append-nil}
use Rattle.std.proofs.lemmas.List.Elements.{All-nil, All-weaker}
use Rattle.std.proofs.lemmas.Option.{get_or_from_slice_get, slice_get_within}
use Rattle.by_rules.specs.declared.day.Day.{Day}
use Rattle.dasd_pool.specs.declared.pool.Pool.{Ghosts}
use Rattle.dd_names.specs.declared.dd.DdName.{DdName}
use Rattle.dsn_filter.specs.declared.dsn.Dsn.{Dsn}
use Rattle.dsn_filter.specs.Dsn.{IsDsn}
use Rattle.dump_fmt.specs.declared.outs.OutState.TheVariants.{Unused}
use Rattle.dump_fmt.specs.Outs.{AreDistinct, OutSeen}
use Rattle.enq_table.specs.declared.hold.Hold.{Hold}
use Rattle.sysin_lang.specs.declared.command.Filter.{Filter}
use Rattle.vol_label.specs.declared.serial.Serial.{Serial}
use Rattle.volume_model.specs.Unit.{OnlineVolume, online}
use Rattle.vtoc_core.specs.declared.volume.Row.{Row}
use Rattle.vtoc_core.specs.declared.volume.Volume.{Volume}
use Rattle.vtoc_load.specs.Counted.{RecordsAreCounted}
use Rattle.unit_load.specs.declared.state.UnitState.{UnitState}
use Rattle.move_core.specs.declared.steps.Step.{Step}
use Rattle.job_lines.specs.declared.message.Message.{Message}
use Rattle.job_lines.specs.declared.message.Message.TheVariants as messages
use Rattle.job_dumps.specs.job_turns.job_copies.job_select.Selection.{ArePicked, Selects}
use Rattle.job_dumps.specs.job_turns.job_copies.step_plans.Plans.{IsSound}
use Rattle.job_dumps.specs.job_turns.job_copies.unit_steps.Loaded.{AreModels}
use Rattle.job_dumps.specs.job_turns.job_copies.unit_steps.Plans.{HasRow, IsLoadedAt}
use Rattle.job_dumps.specs.job_turns.job_steps.unit_session.Sessions.{SessionView}
use Rattle.job_dumps.specs.job_turns.job_steps.declared.cut.Cut.{Cut}
use Rattle.job_dumps.specs.job_turns.job_steps.declared.cut.Cut.TheVariants as cuts
use Rattle.job_dumps.specs.job_turns.job_steps.Units.{ForUnits}
use Rattle.job_outputs.specs.declared.places.OutputsFault.{OutputsFault}
use Rattle.job_outputs.specs.declared.places.OutputsFault.TheVariants as faults
use Rattle.job_outputs.specs.Kept.{IsKeptBut, KeepsUsed}
use Rattle.job_outputs.specs.Outputs.{ArePlacesOf, IsTold, LetsOutputs, RefusesOutputs}
use Rattle.job_dumps.specs.declared.wish.DumpWish.{DumpWish}
use Rattle.job_dumps.proofs.InOrder.{picked_in_order}
use Rattle.job_dumps.specs.job_turns.Ends.{Ends}
use Rattle.job_dumps.specs.job_turns.Refusal.{IsUnitFor, IsUnitOf, IsUnknown, Lets, Refuses, Standing, standing_in, standing_of}
use Rattle.job_dumps.specs.job_turns.Setting.{setting_of}
use Rattle.job_dumps.proofs.job_turns.SameSessions.{ends_as, ends_said}
use Rattle.job_dumps.proofs.job_turns.Standing.{standings_are, volume_of}
use Rattle.dump_sets.specs.Dump.{Dumps, DumpsDataSets, GoesOnOutputs, IsCutDumping, IsCutIn, use_of}
use Rattle.dump_sets.specs.Going.{AreReady, AreTaken}
use Rattle.dump_sets.proofs.Following.{short_within}
use Rattle.dump_sets.proofs.OutputsKept.{keeps_used}
use Rattle.dump_sets.proofs.RowsCounted.{rows_few}

-- each name has one place
pub places_count : (outs : List OutSeen) (names : List DdName) (places : List ℕ) → ArePlacesOf outs names places → length places ≡ length names
places_count outs [] [] are = refl
places_count outs (name ∷ names) (place ∷ places) are = omega (arith, places_count outs names places are.1)
places_count outs [] (place ∷ places) are = absurd are
places_count outs (name ∷ names) [] are = absurd are

-- the data sets that a filter takes can be dumped
pub are_taken : (units : List UnitState) (unit : ℕ) (volume : Volume) → IsLoadedAt units unit volume → IsSound volume → RecordsAreCounted → (sets : List Dsn)
    → ArePicked volume volume.rows sets → All (λ name. (row : Row) × HasRow volume name row) sets → AllPairs (λ name other. name ≢ other) sets → AreTaken units unit sets
are_taken units unit volume loaded sound law sets picked there apart = record {
  volume = volume;
  loaded = loaded;
  order = picked_in_order volume sound sets (rows_few volume sound law) picked;
  named = All-weaker (λ name. (row : Row) × HasRow volume name row) IsDsn (λ name has. has.1.lawful) sets there;
  apart = apart;
}

-- ---- the outputs as a call has them

module _ {X : Type 0} (seen : X → OutSeen) {given outs : List X} (same : given ≡ outs) where
  pub told_of : (Holds : List OutSeen → Type 0) → Holds (map seen given) → Holds (map seen outs)
  told_of Holds holds = subst (λ (list : List X). Holds (map seen list)) same holds

  -- the dump may be begun on them
  pub are_ready : {names : List DdName} {places at : List ℕ} → at ≡ places → ArePlacesOf (map seen given) names places → 0 < length names → All (λ place. place < length given) places → AreDistinct places
      → All (λ place. slice_get (map (λ out. (seen out).state) given) place ≡ Some Unused) places → AreReady seen outs names at
  are_ready {names} {places} {at} at_is are some within distinct unused =
      let long = places_count (map seen given) names places are in
      subst (λ (list : List ℕ). AreReady seen outs names list) (sym at_is)
      (subst (λ (list : List X). AreReady seen list names places) same (record { some = omega (arith, long, some); named = long; within = within; distinct = distinct; unused = unused }))

  -- and none that was used before is touched
  pub kept_used : {places at : List ℕ} {after : List X} → at ≡ places → IsKeptBut seen at outs after
      → All (λ place. slice_get (map (λ out. (seen out).state) given) place ≡ Some Unused) places → KeepsUsed seen outs after
  kept_used {places} {at} {after} at_is kept unused =
      keeps_used seen at outs after kept
      (subst (λ (list : List ℕ). All (λ place. slice_get (map (λ out. (seen out).state) outs) place ≡ Some Unused) list) (sym at_is)
      (subst (λ (list : List X). All (λ place. slice_get (map (λ out. (seen out).state) list) place ≡ Some Unused) places) same unused))

module _ {P : Type 0} (pools : Ghosts P) (session : SessionView P) (held : List Hold) (today : Day) (filter : Filter) (serial : Serial) (names : List DdName) (wish : DumpWish)
    (before : List OutSeen) where
  abbrev Says : Message → Type 0
  Says message = ForUnits pools session (λ units. DumpsDataSets (setting_of pools session held today) filter serial names wish before before units [] (message ∷ []))

  -- the name of its unit is unknown
  pub unknown : (message : Message) → (IsUnknown session.names (use_of wish serial) × (message ≡ messages.UnknownName serial)) → Says message
  unknown message is tells units settled =
      subst (λ (m : Message). DumpsDataSets (setting_of pools session held today) filter serial names wish before before units [] (m ∷ [])) (sym is.1)
      (inl (
        messages.UnknownName serial,
        inr (
          inl is.0,
          (use_of wish serial, record { front = []; back = []; list_is = refl; holds = is.0; none = All-nil (λ other. ¬ IsUnknown session.names other) }, refl),
        ),
        refl,
        refl,
        refl,
      ))

  known : {unit : ℕ} → IsUnitOf session.names serial unit → ¬ IsUnknown session.names (use_of wish serial)
  known {unit} is none = none unit serial (slice_get_within session.names unit serial is.name_is) (get_or_from_slice_get session.names unit serial serial is.name_is)

  -- something stands against its outputs
  pub outputs_refuse : {unit : ℕ} → IsUnitOf session.names serial unit → (message : Message) → RefusesOutputs before names message → Says message
  outputs_refuse is message refused tells units settled = inl (message, inl (known is, refused), refl, refl, refl)

  -- that is said, or memory ran out
  pub fault_said : {unit : ℕ} → IsUnitOf session.names serial unit → (fault : OutputsFault) → IsTold (RefusesOutputs before names) fault → (steps : List Step) {said said_after : List Message}
      (result : Result (SessionView P) (Cut P))
      → IfOk result (λ next. (next ≡ session) × ((message : Message) × (fault ≡ faults.Refused message) × (said_after ≡ said ++ message ∷ [])))
      → IfErr result (λ cut. (cut ≡ cuts.Short session) × (said_after ≡ said))
      → Ends pools (DumpsDataSets (setting_of pools session held today) filter serial names wish before before) (IsCutDumping (setting_of pools session held today) filter serial names wish before before)
      session steps steps said said_after result
  fault_said is fault told steps (Ok next) ok err =
      let message = ok.1.0 in
      ends_said pools (message ∷ []) (Ok next) refl (ok.0, ok.1.2) tt
      (outputs_refuse is message (subst (λ (f : OutputsFault). IsTold (RefusesOutputs before names) f) ok.1.1 told)) (λ units. inl (refl, refl, refl))
  fault_said is fault told steps {said} {said_after} (Err cut) ok err =
      short_within pools session cut err.0 refl ([], err.1 ∙ sym (append-nil said)) (λ units. inl (refl, refl, refl))

  module _ (models : ForUnits pools session (AreModels session.units)) (lets_outputs : LetsOutputs before names) where
    -- something stands against its unit
    pub unit_refuses : (message : Message) → Refuses session.names session.room (map standing_in session.units) (use_of wish serial ∷ []) message → Says message
    unit_refuses message refused tells units settled =
        let same : map standing_of units ≡ map standing_in session.units = standings_are session.units units (models tells units settled) in
        inl (
          message,
          inr (inr lets_outputs, subst (λ (standings : List Standing). Refuses session.names session.room standings (use_of wish serial ∷ []) message) (sym same) refused),
          refl,
          refl,
          refl,
        )

    module _ {count unit : ℕ} (is : IsUnitFor count session.names session.room session.units (use_of wish serial) unit)
        (lets : Lets session.names session.room (map standing_in session.units) (use_of wish serial ∷ [])) (places : List ℕ) (places_are : ArePlacesOf before names places) (sets : List Dsn)
        (selects : ForUnits pools session (λ units. (volume : OnlineVolume) → slice_get units unit ≡ Some (online volume) → Selects filter today volume.sets sets)) where
      goes : ForUnits pools session (λ units. GoesOnOutputs (setting_of pools session held today) filter wish serial names before units unit sets places)
      goes tells units settled =
          let same : map standing_of units ≡ map standing_in session.units = standings_are session.units units (models tells units settled) in
          let found = volume_of session.units units (models tells units settled) unit is.volume is.loaded in
          record {
            lets = subst (λ (standings : List Standing). Lets session.names session.room standings (use_of wish serial ∷ [])) (sym same) lets;
            lets_outputs = lets_outputs;
            unit_is = is.unit_is;
            volume = found.0;
            online_is = found.1;
            sets_are = selects tells units settled found.0 found.1;
            places_are = places_are;
          }

      pub none_selected : sets ≡ [] → Says messages.NothingSelected
      none_selected none tells units settled = inr (unit, sets, places, goes tells units settled, inl (none, refl, refl, refl))

      pub all_dumped : (after : List OutSeen) (given : List Dsn) (at : List ℕ) → given ≡ sets → at ≡ places → sets ≢ [] → {steps steps_after : List Step} {said said_after : List Message}
          (result : Result (SessionView P) (Cut P))
          → Ends pools (Dumps (setting_of pools session held today) wish names unit given at before after) (IsCutIn (setting_of pools session held today) wish unit given at before after) session
          steps steps_after said said_after result
          → Ends pools (DumpsDataSets (setting_of pools session held today) filter serial names wish before after)
          (IsCutDumping (setting_of pools session held today) filter serial names wish before after) session steps steps_after said said_after result
      all_dumped after given at same same_places some {steps} {steps_after} {said} {said_after} result ends =
          ends_as pools result (λ tells units settled done told dumps. inr (unit, sets, places, goes tells units settled, inr (some, dumps)))
          (λ tells units settled done pending cut. inr (unit, sets, places, goes tells units settled, cut))
          (subst (λ (list : List Dsn). Ends pools (Dumps (setting_of pools session held today) wish names unit list places before after)
          (IsCutIn (setting_of pools session held today) wish unit list places before after) session steps steps_after said said_after result) same
          (subst (λ (list : List ℕ). Ends pools (Dumps (setting_of pools session held today) wish names unit given list before after)
          (IsCutIn (setting_of pools session held today) wish unit given list before after) session steps steps_after said said_after result) same_places ends))
