-- Faults that helpers answer, as those of an opening.
use Rattle.std.proofs.Common.{◌≡◌, ◌<◌, ◌≤◌, ℕ, ◌+◌, List, Bool, true, false, sym, subst, arith}
use Rattle.std.specs.Prelude.{Result, Ok, Err, IfErr, OnOk, IfSome, Option, Some, None, if◌then◌else◌}
use Rattle.dasd_pool.specs.Disk.{Image, Shape, State}
use Rattle.vol_label.specs.declared.serial.Serial.{Serial}
use Rattle.redo_core.specs.declared.fault.JournalFault.{JournalFault}
use Rattle.redo_core.specs.declared.fault.JournalFault.TheVariants.{Pool, BadJournal, WrongUnit, JournalSmall, NoMemory}
use Rattle.redo_core.specs.declared.fault.JournalRule.{JournalRule}
use Rattle.redo_core.specs.Reading.{control_block, IsRegistration, HasBody, IsControl}
use Rattle.redo_core.specs.Faults.{zeroed, Breaks, Fails, IsRuleFault, IsFirstBroken}

pub err_weaker : {T : Type 0} (P Q : JournalFault → Type 0) → ((f : JournalFault) → P f → Q f) → (r : Result T JournalFault) → IfErr r P → IfErr r Q
err_weaker P Q implies (Ok t) h = h
err_weaker P Q implies (Err f) h = implies f h

-- what follows from what holds at Ok
pub ok_weaker : {T : Type 0} (X Y : Type 0) (r : Result T JournalFault) → (X → Y) → OnOk r X → OnOk r Y
ok_weaker X Y (Ok t) implies h = implies h
ok_weaker X Y (Err f) implies h = tt

-- a broken rule
pub breaks_rule : (shape : Shape) (image : Image) (rule : JournalRule) (broken : Type 0) → (broken → IsFirstBroken shape image rule) → (f : JournalFault) → Breaks rule broken f → IsRuleFault shape image f
breaks_rule shape image rule broken implies (BadJournal why) b = (rule, b.0, implies b.1)
breaks_rule shape image rule broken implies NoMemory b = tt
breaks_rule shape image rule broken implies Pool b = absurd b
breaks_rule shape image rule broken implies (WrongUnit unit kept found) b = absurd b
breaks_rule shape image rule broken implies (JournalSmall need have) b = absurd b

-- no fault of the pool
pub breaks_cause : (rule : JournalRule) (broken : Type 0) (cause : Type 0) (f : JournalFault) → Breaks rule broken f → f ≡ Pool → cause
breaks_cause rule broken cause (BadJournal why) b is = absurd (cc is)
breaks_cause rule broken cause NoMemory b is = absurd (cc is)
breaks_cause rule broken cause Pool b is = absurd b
breaks_cause rule broken cause (WrongUnit unit kept found) b is = absurd b
breaks_cause rule broken cause (JournalSmall need have) b is = absurd b

pub registration_at : (one other : ℕ) (block bytes : List ℕ) (names : List Serial) (room : ℕ) → one ≡ other → block ≡ bytes → IsRegistration one block names room → IsRegistration other bytes names room
registration_at one other block bytes names room unit same stands = subst (λ (b : List ℕ). IsRegistration other b names room) same (subst (λ (u : ℕ). IsRegistration u block names room) unit stands)

-- the later place is within
pub within_more : (t : Bool) (found next : Option ℕ) (place : ℕ) → 4 ≤ place → next ≡ (if t then Some place else found) → IfSome found (λ p. (4 ≤ p) × (p < place)) → IfSome next (λ p. (4 ≤ p) × (p < place + 1))
within_more t found next place least is within = subst (λ (o : Option ℕ). IfSome o (λ p. (4 ≤ p) × (p < place + 1))) (sym is) (choose t found within)
  where
    choose : (c : Bool) (o : Option ℕ) → IfSome o (λ p. (4 ≤ p) × (p < place)) → IfSome (if c then Some place else o) (λ p. (4 ≤ p) × (p < place + 1))
    choose true o w = (least, omega arith)
    choose false (Some p) w = (w.0, omega (arith, w.1))
    choose false None w = tt

pub fails_rule : (shape : Shape) (image : Image) (rule : JournalRule) (broken : Type 0) → (broken → IsFirstBroken shape image rule) → (f : JournalFault) → Fails rule broken f → IsRuleFault shape image f
fails_rule shape image rule broken implies (BadJournal why) b = (rule, b.0, implies b.1)
fails_rule shape image rule broken implies NoMemory b = tt
fails_rule shape image rule broken implies Pool b = tt
fails_rule shape image rule broken implies (WrongUnit unit kept found) b = absurd b
fails_rule shape image rule broken implies (JournalSmall need have) b = absurd b

-- the same, of the same pool
pub body_at : (room : ℕ) (s t : Shape) (a b : State) → s ≡ t → a ≡ b → HasBody t (zeroed t b.contents) room → HasBody s (zeroed s a.contents) room
body_at room s t a b shape state has =
    subst (λ (x : Shape). HasBody x (zeroed x a.contents) room) (sym shape) (subst (λ (x : State). HasBody t (zeroed t x.contents) room) (sym state) has)

pub control_at : (s t : Shape) (a b : State) → s ≡ t → a ≡ b → IsControl t (control_block t (zeroed t b.contents)) → IsControl s (control_block s (zeroed s a.contents))
control_at s t a b shape state is =
    subst (λ (x : Shape). IsControl x (control_block x (zeroed x a.contents))) (sym shape) (subst (λ (x : State). IsControl t (control_block t (zeroed t x.contents))) (sym state) is)
