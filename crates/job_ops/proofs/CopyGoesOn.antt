-- How the turn of a data set goes on that is to be copied, from what was judged of it.
use Rattle.std.proofs.Common.{◌≡◌, ℕ, Bool, List, [], ◌∷◌, ◌++◌, All, Option, None, Ok, Err, refl, sym, ap, subst}
use Rattle.std.specs.Prelude.{Result, IfOk, IfErr}
use Rattle.std.proofs.lemmas.List.Elements.{All-head}
use Rattle.dasd_pool.specs.declared.pool.Pool.{Ghosts}
use Rattle.dsn_filter.specs.declared.dsn.Dsn.{Dsn}
use Rattle.dsn_filter.specs.Dsn.{IsDsn}
use Rattle.free_map.specs.declared.run.Run.{Run}
use Rattle.volume_model.specs.Pinned.{IsNameOf}
use Rattle.volume_model.specs.Unit.{UnitModel}
use Rattle.vtoc_core.specs.declared.volume.Row.{Row}
use Rattle.unit_load.specs.declared.state.UnitState.{UnitState}
use Rattle.move_core.specs.declared.steps.Step.{Step}
use Rattle.move_core.specs.Stands.{IsGood}
use Rattle.dump_sets.specs.job_turns.job_copies.unit_steps.Plans.{HasRow}
use Rattle.dump_sets.specs.job_turns.job_steps.unit_session.Sessions.{SessionView, IsSameSession}
use Rattle.dump_sets.specs.job_turns.job_steps.unit_session.Copies.{HasSource}
use Rattle.job_lines.specs.declared.message.Message.{Message}
use Rattle.job_lines.specs.declared.message.Message.TheVariants as messages
use Rattle.job_lines.specs.declared.message.Reason.{Reason}
use Rattle.job_lines.specs.declared.message.Reason.TheVariants as reasons
use Rattle.job_lines.specs.declared.severity.Severity.TheVariants as severities
use Rattle.dump_sets.specs.job_turns.job_steps.declared.cut.Cut.{Cut}
use Rattle.dump_sets.specs.job_turns.job_steps.declared.cut.Cut.TheVariants as cuts
use Rattle.job_ops.specs.declared.copies.Judged.{Judged}
use Rattle.job_ops.specs.declared.copies.Judged.TheVariants as judges
use Rattle.dump_sets.specs.job_turns.job_acts.Acting.{AreSound}
use Rattle.job_ops.specs.Transfers.{MayTransfer}
use Rattle.job_ops.specs.Copy.{Request, CopiesSet, IsNewName}
use Rattle.job_ops.specs.Copying.{MayBeCopied, MayStand, StaysCopyable, IsThere, IsCase, GoesSoFar, IsJudged, HasGoodTexts}
use Rattle.dump_sets.specs.job_turns.job_steps.Units.{ForUnits}
use Rattle.dump_sets.specs.job_turns.Ends.{Ends}
use Rattle.dump_sets.specs.job_turns.Turns.{Action}
use Rattle.job_ops.proofs.CopyBehind.{stays_same}
use Rattle.job_ops.proofs.CopyEnds.{tells}
use Rattle.job_ops.proofs.CopyTurns.{case_of, is_case, reason_at_first, bad_track, no_space}
use Rattle.dump_sets.proofs.job_turns.SameSessions.{ends_said, ends_short}

-- ---- the data set

module _ {delete : Bool} {room : ℕ} {units : List UnitState} {from to : ℕ} {name : Dsn} (may : MayBeCopied delete room units from to (name ∷ [])) where
  pub its_row : (row : Row) × HasRow may.source name row
  its_row = All-head (λ (n : Dsn). (row : Row) × HasRow may.source n row) name [] may.sets

  pub is_name : IsDsn name
  is_name = its_row.1.lawful

  pub has_source : HasSource units from name
  has_source = (may.source, its_row.0, may.source_loaded, its_row.1)

  -- what was judged is what its transfer needs
  pub may_transfer : {new : Dsn} {replaced : Bool} {runs : List Run} → IsDsn new → MayStand units from to name new replaced runs → AreSound units
      → MayTransfer room units (record { from = record { unit = from; name = name }; to = record { unit = to; name = new }; runs = runs; replaced = replaced; delete = delete })
  may_transfer {new} {replaced} {runs} lawful stands sound = record {
    put =
        record {
          source = may.source;
          source_loaded = may.source_loaded;
          source_sound = sound from may.source may.source_loaded;
          target = may.target;
          target_sound = sound to may.target.volume may.target.loaded;
          like = may.like;
          row = its_row.0;
          row_is = its_row.1;
          few = stands.few may.source its_row.0 may.source_loaded its_row.1;
          new_is = lawful;
          places = stands.places may.source may.target.volume its_row.0 may.source_loaded may.target.loaded its_row.1;
          clear = stands.clear may.target.volume may.target.loaded;
        };
    may_source = may.may_source;
    apart = stands.apart;
  }

-- ---- it isn't copied

module _ {request : Request} {name new : Dsn} {units : List UnitModel} (there : IsThere request name units) (renamed : IsNewName request.rename name new) where
  -- for what was judged at first
  pub tells_first : (reason : Reason) → IsJudged request name new (judges.Refused reason) units → (text : List ℕ) → IsNameOf name text
      → CopiesSet request name units [] (messages.NotProcessed text reason severities.Error ∷ [])
  tells_first reason is text named =
      tells there new reason text renamed named (reason_at_first request.held request.today (case_of there new) reason (is (case_of there new) (is_case there new)))

  -- for a track without a text
  pub tells_bad : GoesSoFar request name new units → ((case : Rattle.dump_sets.specs.job_turns.job_copies.Case.Case) → IsCase request name new units case → ¬ All IsGood case.set.texts) → (text : List ℕ) → IsNameOf name text
      → CopiesSet request name units [] (messages.NotProcessed text reasons.BadTrack severities.Error ∷ [])
  tells_bad goes bad text named =
      tells there new reasons.BadTrack text renamed named
      (bad_track request.held request.today (case_of there new) (goes.lets (case_of there new) (is_case there new)) (bad (case_of there new) (is_case there new)))

  -- for want of places
  pub tells_no_space : IsJudged request name new judges.NoPlaces units → HasGoodTexts request name new units → (text : List ℕ) → IsNameOf name text
      → CopiesSet request name units [] (messages.NotProcessed text reasons.NoSpace severities.Error ∷ [])
  tells_no_space is good text named =
      let case = case_of there new in
      let here = is_case there new in
      tells there new reasons.NoSpace text renamed named
      (no_space request.held request.today case (is.0.lets case here) (good case here) (is.1 case here))

-- what was judged and isn't refused goes on
pub goes_on : {request : Request} {name new : Dsn} {units : List UnitModel} (judged : Judged) → ((reason : Reason) → ¬ (judged ≡ judges.Refused reason)) → IsJudged request name new judged units
    → GoesSoFar request name new units
goes_on (judges.Refused reason) other is = absurd (other reason refl)
goes_on judges.NoPlaces other is = is.0
goes_on (judges.Placed replaced runs) other is = is.0

-- ---- what is said

module _ {P : Type 0} (pools : Ghosts P) (name : Dsn) (reason : Reason) where
  abbrev SaysNot : SessionView P → List Message → List Message → SessionView P → Type 0
  SaysNot session before after next =
      (next ≡ session) × ((text : List ℕ) × IsNameOf name text × (after ≡ before ++ (messages.NotProcessed text reason severities.Error ∷ [])))

  pub ends_not : {Means : Action} {IsCut : List UnitModel → List Step → Option Step → Type 0} {session : SessionView P} {steps_before steps_after : List Step} {before after : List Message}
      (result : Result (SessionView P) (Cut P)) → steps_after ≡ steps_before
      → IfOk result (λ next. (next ≡ session) × ((text : List ℕ) × IsNameOf name text × (after ≡ before ++ (messages.NotProcessed text reason severities.Error ∷ []))))
      → IfErr result (λ cut. (cut ≡ cuts.Short session) × (after ≡ before))
      → ((text : List ℕ) → IsNameOf name text → ForUnits pools session (λ units. Means units [] (messages.NotProcessed text reason severities.Error ∷ [])))
      → ((units : List UnitModel) → IsCut units [] None) → Ends pools Means IsCut session steps_before steps_after before after result
  ends_not {Means} {IsCut} {session} {steps_before} {steps_after} {before} {after} (Ok next) steps ok err means cut =
      ends_said pools (messages.NotProcessed ok.1.0 reason severities.Error ∷ []) (Ok next) steps (ok.0, ok.1.2) tt (means ok.1.0 ok.1.1) cut
  ends_not {Means} {IsCut} {session} {steps_before} {steps_after} {before} {after} (Err short) steps ok err means cut =
      subst (λ (k : Cut P). Ends pools Means IsCut session steps_before steps_after before after (Err k)) (sym err.0)
      (subst (λ (l : List Step). Ends pools Means IsCut session steps_before l before after (Err (cuts.Short session))) (sym steps)
      (subst (λ (l : List Message). Ends pools Means IsCut session steps_before steps_before before l (Err (cuts.Short session))) (sym err.1)
      (ends_short pools session steps_before before cut)))

  pub not_stays : (session : SessionView P) (before after : List Message) (delete : Bool) (room from to : ℕ) (result : Result (SessionView P) (Cut P))
      → IfOk result (λ next. (next ≡ session) × ((text : List ℕ) × IsNameOf name text × (after ≡ before ++ (messages.NotProcessed text reason severities.Error ∷ []))))
      → IfOk result (λ next. StaysCopyable delete room session.units next.units from to name)
  not_stays session before after delete room from to (Ok next) ok = stays_same session.units next.units delete room from to name (ap (λ (s : SessionView P). s.units) ok.0)
  not_stays session before after delete room from to (Err cut) ok = tt

-- ---- a session that is as it was

module _ {P : Type 0} (pools : Ghosts P) {old new : SessionView P} (same : IsSameSession pools old new) where
  pub copied_as : {delete : Bool} {from to : ℕ} {names : List Dsn} → MayBeCopied delete old.room old.units from to names → MayBeCopied delete new.room new.units from to names
  copied_as {delete} {from} {to} {names} may =
      subst (λ (room : ℕ). MayBeCopied delete room new.units from to names) (sym same.room)
      (subst (λ (units : List UnitState). MayBeCopied delete old.room units from to names) (sym same.units) may)

  pub stays_from : (delete : Bool) (from to : ℕ) (name : Dsn) (result : Result (SessionView P) (Cut P)) → IfOk result (λ next. StaysCopyable delete new.room new.units next.units from to name)
      → IfOk result (λ next. StaysCopyable delete old.room old.units next.units from to name)
  stays_from delete from to name (Ok next) stays =
      subst (λ (room : ℕ). StaysCopyable delete room old.units next.units from to name) same.room
      (subst (λ (units : List UnitState). StaysCopyable delete new.room units next.units from to name) same.units stays)
  stays_from delete from to name (Err cut) stays = tt
