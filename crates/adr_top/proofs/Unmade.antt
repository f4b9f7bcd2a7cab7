-- A journal that wasn't made.
use Rattle.std.proofs.Common.{◌≡◌, ◌⊎◌, inr, ℕ, ◌≤◌, List, [], None, refl, sym, ap, subst, ◌∙◌}
use Rattle.dasd_pool.specs.Count.{Rose}
use Rattle.dasd_pool.specs.Disk.{LeavesOnly, Runs, none}
use Rattle.dasd_pool.specs.declared.pool.Pool.{Ghosts}
use Rattle.vol_label.specs.declared.serial.Serial.{Serial}
use Rattle.redo_core.specs.declared.fault.JournalFault.{JournalFault}
use Rattle.redo_core.specs.declared.fault.JournalFault.TheVariants as faults
use Rattle.redo_core.specs.Faults.{IsFormatFault, MayFormat}
use Rattle.redo_core.specs.Opening.{MakingLeaves, SparesVolumes}
use Rattle.redo_core.specs.Reading.{journal_of}
use Rattle.redo_core.specs.Steps.{of_making}
use Rattle.job_script.specs.Ends.{SinkSeen, After}
use Rattle.run_lines.specs.declared.ending.RunEnd.{RunEnd}
use Rattle.run_lines.specs.Endings.{end_of, last_line}
use Rattle.run_lines.specs.Texts.{Tells}
use Rattle.adr_top.specs.Ends.{Formats}
use Rattle.adr_top.specs.Parts.{IsRefused}
use Rattle.adr_top.proofs.Opened.{only_pool}

pub formats_not : {P : Type 0} (pools : Ghosts P) (out : SinkSeen) (pool stopped : P) (fault : JournalFault) (end : RunEnd) (serials : List Serial) (room : ℕ) (left : After P)
    → IsRefused out stopped end left → end ≡ end_of fault → pools.shape stopped ≡ pools.shape pool → pools.faults pool ≤ pools.faults stopped
    → (pools.tells → Runs (of_making (journal_of (pools.shape pool))) (pools.disk pool) (pools.disk stopped))
    → (pools.tells → LeavesOnly (pools.disk pool) (pools.disk stopped) (SparesVolumes (pools.shape pool) (pools.disk pool).state))
    → (pools.tells → LeavesOnly (pools.disk pool) (pools.disk stopped) (MakingLeaves (pools.shape pool) (pools.disk pool).state))
    → (pools.tells → IsFormatFault (pools.shape pool) (pools.disk pool).state.contents serials room fault)
    → (fault ≡ faults.Pool → Rose (pools.faults pool) (pools.faults stopped))
    → (pools.tells → (fault ≡ faults.Pool → ⊥) → Runs none (pools.disk pool) (pools.disk stopped))
    → (pools.tells → MayFormat (pools.shape pool) (pools.disk pool).state.contents serials room ⊎ Runs none (pools.disk pool) (pools.disk stopped))
    → Formats pools out pool serials room left
formats_not {P} pools out pool stopped fault end serials room left refused end_is shape later runs spares stops cause failed unwritten careful =
    subst (λ (a : After P). Formats pools out pool serials room a) same (record {
      no_steps = refl;
      none_pending = refl;
      shape = shape;
      later = later;
      runs = runs;
      spares = spares;
      stops = stops;
      made = inr (record {
        fault = fault;
        end_is = end_is;
        cause = cause;
        failed = λ is. failed (only_pool fault (sym end_is ∙ is));
        unwritten = λ told other. unwritten told (λ pool. other (end_is ∙ ap end_of pool));
        careful = careful;
        did = record {
          steps = refl;
          pending = refl;
          told = subst (λ (e : RunEnd). Tells out.before out.after out.faults_before out.faults_after (last_line e)) refused.end_is refused.did.told;
          later = refused.did.later;
        };
      });
    })
  where
    same : record { pool = stopped; steps = []; pending = None; end = end } ≡ left
    same = λ i. record { pool = sym refused.same i; steps = sym refused.did.steps i; pending = sym refused.did.pending i; end = sym refused.end_is i }
