-- Why a session doesn't begin, and for which units one does.
use Rattle.std.proofs.Common.{◌≡◌, ℕ, List, Bool, refl, sym, subst}
use Rattle.dasd_pool.specs.Disk.{Disk, Shape, State, Runs, none}
use Rattle.dasd_pool.proofs.Moments.{runs_then}
use Rattle.vol_label.specs.declared.serial.Serial.{Serial}
use Rattle.redo_core.specs.declared.control.Control.{Control}
use Rattle.redo_core.specs.declared.fault.JournalFault.{JournalFault}
use Rattle.redo_core.specs.declared.fault.JournalFault.TheVariants as faults
use Rattle.redo_core.specs.Opening.{IsOpened}
use Rattle.volume_model.specs.Unit.{UnitModel}
use Rattle.move_core.specs.Facts.{Facts}
use Rattle.move_core.specs.Stands.{Stands, IsSettled}
use Rattle.move_core.proofs.Standing.{opened_settled}

pub pool_cause : (fault : JournalFault) (R : Type 0) → (fault ≡ faults.Pool → R) → ¬ (fault ≡ faults.Pool → ⊥) → R
pool_cause faults.Pool R given not = given refl
pool_cause (faults.BadJournal why) R given not = absurd (not (λ e. cc e))
pool_cause (faults.JournalSmall need have) R given not = absurd (not (λ e. cc e))
pool_cause (faults.WrongUnit unit kept found) R given not = absurd (not (λ e. cc e))
pool_cause faults.NoMemory R given not = absurd (not (λ e. cc e))

-- an opening, and then reads
pub opened_reads : {may : ℕ → ℕ → Bool} {old mid new : Disk} → Runs may old mid → Runs none mid new → Runs may old new
opened_reads {may} {old} {mid} {new} run reads = runs_then may may none old mid new (λ u b apart. apart) (λ u b apart. refl) run reads

-- behind an opening and reads a pool is settled for the units for which it stood
pub stood_settled : {facts : Facts} {shape : Shape} {old new state : State} {units : List UnitModel} {names : List Serial} {room : ℕ} {control : Control} {fills : List Bool}
    → facts.shape ≡ shape → state ≡ new → IsOpened shape old names room control fills new → Stands facts old.contents units → IsSettled facts state units
stood_settled {facts} {shape} {old} {new} {state} {units} {names} {room} {control} {fills} same still opened stands =
    subst (λ (t : State). IsSettled facts t units) (sym still)
    (opened_settled facts old new units names room control fills stands (subst (λ (s : Shape). IsOpened s old names room control fills new) (sym same) opened))
