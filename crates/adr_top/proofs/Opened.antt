-- A run over a session that was opened, as a run over the pool that was handed in.
use Rattle.std.proofs.Common.{◌≡◌, ◌≢◌, ◌⊎◌, inl, List, [], None, refl, sym, ap, subst, ◌∙◌}
use Rattle.by_rules.specs.declared.day.Day.{Day}
use Rattle.dasd_pool.specs.Disk.{Runs, none}
use Rattle.dasd_pool.proofs.Moments.{runs_then}
use Rattle.dasd_pool.specs.declared.pool.Pool.{Ghosts}
use Rattle.enq_table.specs.declared.hold.Hold.{Hold}
use Rattle.vol_label.specs.declared.serial.Serial.{Serial}
use Rattle.volume_model.specs.Unit.{UnitModel}
use Rattle.redo_core.specs.declared.fault.JournalFault.{JournalFault}
use Rattle.redo_core.specs.declared.fault.JournalFault.TheVariants as faults
use Rattle.redo_core.specs.Faults.{IsOpenFault, MayOpen}
use Rattle.redo_core.specs.Opening.{of_opening}
use Rattle.redo_core.specs.Reading.{journal_of}
use Rattle.move_core.specs.declared.steps.Step.{Step}
use Rattle.move_core.specs.Facts.{Facts, Inputs, no_inputs, Shown, shown}
use Rattle.move_core.proofs.Resuming.{settled_with}
use Rattle.move_core.specs.Runs.{EndsSettled, IsFinished, IsRun}
use Rattle.move_core.specs.Stands.{Stands, IsSettled}
use Rattle.move_core.proofs.Running.{run_less, run_then}
use Rattle.sysin_lang.specs.Flow.{Plan}
use Rattle.job_script.specs.unit_session.Sessions.{SessionView, IsRefusal}
use Rattle.dump_fmt.specs.Outs.{FilesSeen}
use Rattle.job_script.specs.Runs.{RunOn}
use Rattle.job_script.specs.Ends.{SinkSeen, After, EndsScript}
use Rattle.run_lines.specs.declared.ending.RunEnd.{RunEnd}
use Rattle.run_lines.specs.declared.ending.RunEnd.TheVariants as ends
use Rattle.run_lines.specs.Endings.{end_of, last_line}
use Rattle.run_lines.specs.Texts.{Tells}
use Rattle.adr_top.specs.Ends.{RunsText}
use Rattle.adr_top.specs.Parts.{IsRefused, Opens}

-- what never changes of a session's pool
abbrev facts_at : {P : Type 0} → Ghosts P → SessionView P → Inputs → Facts
facts_at pools session inputs = record { shape = pools.shape session.pool; names = session.names; room = session.room; inputs = inputs }

-- a fault of the pool, and no other, ends a run as one
pub only_pool : (fault : JournalFault) → end_of fault ≡ ends.Pool → fault ≡ faults.Pool
only_pool faults.Pool is = refl
only_pool (faults.BadJournal rule) is = absurd (cc is)
only_pool (faults.WrongUnit unit kept found) is = absurd (cc is)
only_pool (faults.JournalSmall need have) is = absurd (cc is)
only_pool faults.NoMemory is = absurd (cc is)

-- an opening that was refused, as a run that ended so
pub refused_run : {tells : Type 0} {old new : Shown} {fault : JournalFault} {end : RunEnd} → end ≡ end_of fault → IsRun tells old new (fault ≡ faults.Pool → ⊥) [] None
    → IsRun tells old new (end ≢ ends.Pool) [] None
refused_run {tells} {old} {new} {fault} {end} is run =
    run_less (λ other pool. other (is ∙ ap (λ (f : JournalFault). end_of f) pool))
    (λ not. run.cause (λ other. not (λ pool. other (only_pool fault (sym is ∙ pool)))))
    run

-- the journal wasn't opened
pub opens_not : {P : Type 0} (pools : Ghosts P) (pool stopped : P) (fault : JournalFault) (end : RunEnd) (files : FilesSeen) (out : SinkSeen) (serials : List Serial) (table : List Hold) (today : Day) (plan : Plan)
    (left : After P) → IsRefused out stopped end left → end ≡ end_of fault → IsRun pools.tells (shown pools pool) (shown pools stopped) (fault ≡ faults.Pool → ⊥) [] None
    → (pools.tells → IsOpenFault (pools.shape pool) (pools.disk pool).state.contents serials fault)
    → (pools.tells → IsRefusal fault → Runs none (pools.disk pool) (pools.disk stopped))
    → (pools.tells → MayOpen (pools.shape pool) (pools.disk pool).state.contents serials ⊎ Runs none (pools.disk pool) (pools.disk stopped))
    → (pools.tells → Runs (of_opening (journal_of (pools.shape pool)) (pools.disk pool).state.contents) (pools.disk pool) (pools.disk stopped))
    → Opens pools files out pool serials table today plan left
opens_not {P} pools pool stopped fault end files out serials table today plan left refused end_is run cause unwritten careful opening =
    subst (λ (a : After P). Opens pools files out pool serials table today plan a) same (record {
      run = refused_run end_is run;
      how = inl (record {
        fault = fault;
        end_is = end_is;
        cause = cause;
        unwritten = unwritten;
        careful = careful;
        opening = opening;
        did = record {
          steps = refl;
          pending = refl;
          told = subst (λ (e : RunEnd). Tells out.before out.after out.faults_before out.faults_after (last_line e)) refused.end_is refused.did.told;
          later = refused.did.later;
        };
      });
    })
  where
    same : record { pool = stopped; steps = []; pending = None; end = end } ≡ left
    same = λ i. record { pool = sym refused.same i; steps = sym refused.did.steps i; pending = sym refused.did.pending i; end = sym refused.end_is i }

module _ {P : Type 0} (pools : Ghosts P) (pool : P) (session : SessionView P) (plan : Plan) (held : List Hold) (today : Day) (files : FilesSeen) (out : SinkSeen) (left : After P)
    (begins : IsRun pools.tells (shown pools pool) (shown pools session.pool) (Unit {0}) [] None)
    (own : pools.tells → (facts : Facts) (units : List UnitModel) → facts.shape ≡ pools.shape session.pool → IsSettled facts (pools.disk session.pool).state units
    → facts ≡ record { shape = pools.shape session.pool; names = session.names; room = session.room; inputs = facts.inputs })
    (stood : pools.tells → (facts : Facts) (units : List UnitModel) → facts.shape ≡ pools.shape pool → Stands facts (pools.disk pool).state.contents units
    → IsSettled facts (pools.disk session.pool).state units)
    (runs : EndsScript pools session plan held today files out left) where
  -- what the script means on the units of the session it means on those of the pool, which are the same
  means : pools.tells → (facts : Facts) (units : List UnitModel) → facts.shape ≡ pools.shape pool → Stands facts (pools.disk pool).state.contents units
      → RunOn (record { facts = facts; today = today; held = held }) runs.ran runs.under runs.leaves.cut runs.leaves.added left.pending units
  means told facts units same stands =
      let settled = stood told facts units same stands in
      let is : facts ≡ facts_at pools session facts.inputs = own told facts units (same ∙ sym begins.shape) settled in
      subst (λ (f : Facts). RunOn (record { facts = f; today = today; held = held }) runs.ran runs.under runs.leaves.cut runs.leaves.added left.pending units) (sym is)
      (runs.leaves.means facts.inputs told units (settled_with no_inputs (subst (λ (f : Facts). IsSettled f (pools.disk session.pool).state units) is settled)))

  -- and so what it leaves of them
  ends_settled : pools.tells → left.end ≢ ends.Pool → (facts : Facts) (units : List UnitModel) → facts.shape ≡ pools.shape pool → Stands facts (pools.disk pool).state.contents units
      → EndsSettled facts (pools.disk left.pool) units left.steps left.pending
  ends_settled told ended facts units same stands =
      subst (λ (l : List Step). EndsSettled facts (pools.disk left.pool) units l left.pending) (sym runs.leaves.steps_are)
      ((runs.leaves.run.keeps told facts (same ∙ sym begins.shape) (tt {0}) units (stood told facts units same stands)).settled ended)

  pub opens_run : IsRun pools.tells (shown pools pool) (shown pools left.pool) (left.end ≢ ends.Pool) left.steps left.pending
  opens_run =
      subst (λ (l : List Step). IsRun pools.tells (shown pools pool) (shown pools left.pool) (left.end ≢ ends.Pool) l left.pending) (sym runs.leaves.steps_are)
      (run_then begins (tt {0}) runs.leaves.run)

  pub runs_text : (serials : List Serial) → (pools.tells → MayOpen (pools.shape pool) (pools.disk pool).state.contents serials)
      → (pools.tells → Runs (of_opening (journal_of (pools.shape pool)) (pools.disk pool).state.contents) (pools.disk pool) (pools.disk session.pool))
      → (pools.tells → IsFinished (pools.shape session.pool) (pools.disk session.pool).state.contents) → RunsText pools files out pool serials held today plan left
  runs_text serials opened opening closed = record {
    opened = opened;
    ran = runs.ran;
    under = runs.under;
    wanted = runs.wanted;
    added = runs.leaves.added;
    statements = runs.statements;
    reports = runs.leaves.reports;
    steps_are = runs.leaves.steps_are;
    none_added = runs.leaves.none_added;
    none_pending = runs.leaves.none_pending;
    end_is = runs.leaves.end_is;
    printed = runs.leaves.printed;
    earlier = runs.leaves.earlier;
    quiet = λ told listed.
        subst (λ (p : P). Runs (of_opening (journal_of (pools.shape pool)) (pools.disk pool).state.contents) (pools.disk pool) (pools.disk p)) (sym (runs.leaves.quiet listed)) (opening told);
    still = λ told empty never.
        runs_then (of_opening (journal_of (pools.shape pool)) (pools.disk pool).state.contents) (of_opening (journal_of (pools.shape pool)) (pools.disk pool).state.contents) none (pools.disk pool) (pools.disk session.pool) (pools.disk left.pool)
        (λ u b apart. apart) (λ u b apart. refl) (opening told) (runs.leaves.run.still told (closed told) (sym runs.leaves.steps_are ∙ empty) never);
    cut = runs.leaves.cut;
    handed = runs.leaves.handed;
    means = means;
    settled = ends_settled;
  }
