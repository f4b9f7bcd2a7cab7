use Rattle.std.proofs.Common.{◌≡◌, ◌∙◌, ◌≤◌, List, ap, subst, arith}
use Rattle.dasd_pool.specs.declared.failures.Failures.{Failures}
use Rattle.dasd_pool.specs.declared.units.UnitText.{UnitText}
use Rattle.dasd_pool.specs.Calls.{items_of, texts_of, size_of}
use Rattle.dasd_pool.specs.Marks.{first_marks}
use Rattle.dasd_pool.specs.Memory.{view_of, state_of}
use Rattle.dasd_pool.proofs.Effects.{fresh_state, agree_fresh}
use Rattle.dasd_pool.proofs.memory.MemoryPool.new.Goals as goal

pub invariant_of-result : goal.invariant_of-result
invariant_of-result c =
    let none : Failures = record { told = c.args.failing; count = 0; faults = 0 } in
    agree_fresh c.args.units.items (items_of c.in_ok-texts.texts.items) c.in_ok-kept.kept c.in_ok-marks.marks none c.args.keep c.largest_size.result
    (c.in_ok-texts.ensures ∙ ap texts_of c.deref.ensures.value) c.in_ok-kept.ensures (c.in_ok-marks.ensures ∙ ap (λ (us : List UnitText). first_marks c.args.keep us) c.deref-3.ensures.value)
    (omega arith) (λ u. subst (λ (us : List UnitText). size_of us u ≤ c.largest_size.result) c.deref-2.ensures.value (c.largest_size.ensures u))

pub returns-clause-state : goal.returns-clause-state
returns-clause-state c =
    let none : Failures = record { told = c.args.failing; count = 0; faults = 0 } in
    let texts : items_of c.in_ok-texts.texts.items ≡ texts_of c.args.units.items = c.in_ok-texts.ensures ∙ ap texts_of c.deref.ensures.value in
    let marks : c.in_ok-marks.marks ≡ first_marks c.args.keep c.args.units.items = c.in_ok-marks.ensures ∙ ap (λ (us : List UnitText). first_marks c.args.keep us) c.deref-3.ensures.value in
    (λ i. state_of (view_of c.args.units.items (texts i) (c.in_ok-kept.ensures i) (marks i) none))
    ∙ fresh_state c.args.keep c.args.units.items c.args.failing.items
