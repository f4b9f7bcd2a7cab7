use Rattle.std.proofs.Common.{ℕ, ◌≡◌, List, refl, sym, subst, arith}
use Rattle.std.proofs.lemmas.Bool.{false≢true}
use Rattle.vol_label.specs.declared.serial.Serial.{Serial}
use Rattle.redo_core.specs.declared.fault.JournalFault.{JournalFault}
use Rattle.redo_core.specs.declared.fault.JournalRule.TheVariants as rules
use Rattle.redo_core.specs.Reading.{journal_of, IsRegistration}
use Rattle.redo_core.specs.Faults.{zeroed, Breaks, IsRuleFault}
use Rattle.redo_core.proofs.Faulting.{err_weaker, breaks_rule, breaks_cause, registration_at}
use Rattle.redo_core.proofs.opening.find_registration.Goals as goal

pub returns-then-not-has_head-clause-refused : goal.returns-then-not-has_head-clause-refused
returns-then-not-has_head-clause-refused g c = λ told.
    subst (λ (f : JournalFault). IsRuleFault (g.P.Pool.shape c.args.pool.now) (zeroed (g.P.Pool.shape c.args.pool.now) (g.P.Pool.disk c.args.pool.now).state.contents) f) (sym c.broken.ensures)
    (rules.Head, refl, λ head. false≢true (c.if-not-has_head.ensures.1 head))

pub returns-clause-refused : goal.returns-clause-refused
returns-clause-refused g c = λ told.
    let shape = g.P.Pool.shape c.args.pool.now in
    let unit : journal_of shape ≡ c.args.journal = omega (arith, c.requires.last) in
    err_weaker (Breaks rules.Registration ((names : List Serial) (room : ℕ) → ¬ IsRegistration c.args.journal c.read_or_zeros.new.buffer names room)) (IsRuleFault shape (zeroed shape (g.P.Pool.disk c.args.pool.now).state.contents))
    (breaks_rule shape (zeroed shape (g.P.Pool.disk c.args.pool.now).state.contents) rules.Registration _
    (λ broken. (c.if-not-has_head.ensures.0 refl, λ names room stands. broken names room (registration_at (journal_of shape) c.args.journal _ _ names room unit (sym (c.in_ok-read_or_zeros.ensures.bytes told)) stands))))
    c.registration_of.result c.registration_of.ensures.refused

pub returns-clause-cause : goal.returns-clause-cause
returns-clause-cause g c =
    err_weaker (Breaks rules.Registration ((names : List Serial) (room : ℕ) → ¬ IsRegistration c.args.journal c.read_or_zeros.new.buffer names room)) _
    (λ f. breaks_cause rules.Registration _ _ f)
    c.registration_of.result c.registration_of.ensures.refused
