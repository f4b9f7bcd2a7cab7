use Rattle.std.proofs.Common.{◌∙◌, refl, sym, ap}
use Rattle.dasd_pool.specs.Disk.{State}
use Rattle.dasd_pool.specs.Memory.{state_of}
use Rattle.dasd_pool.specs.Calls.{items_of}
use Rattle.dasd_pool.proofs.Effects.{read_state, agree_call}
use Rattle.dasd_pool.proofs.memory.MemoryPool.read_block.Goals as goal

pub invariant_of-self : goal.invariant_of-self
invariant_of-self c =
    let s = c.self.inside in
    agree_call s.first.items (items_of s.texts.items) (items_of s.texts.items) s.kept c.add.new.self s.marks s.marks s.failures c.next_fails-failed.new.self _ c.add.ensures.keep c.add.ensures.width c.add.ensures.calls (λ less. tt)
    refl (λ u. refl) (λ u. refl)
    (λ u b. c.self.invariant.current u b ∙ sym (ap (λ (t : State). t.contents u b) (read_state s.first.items (items_of s.texts.items) s.kept c.add.new.self s.marks s.failures c.next_fails-failed.new.self c.add.ensures.keep c.args.unit c.args.block c.next_fails-failed.result c.add.ensures.calls)))
    c.self.invariant

pub returns-then-failed-clause-same : goal.returns-then-failed-clause-same
returns-then-failed-clause-same c =
    let s = c.self.inside in
    read_state s.first.items (items_of s.texts.items) s.kept c.add.new.self s.marks s.failures c.next_fails-failed.new.self c.add.ensures.keep c.args.unit c.args.block c.next_fails-failed.result c.add.ensures.calls
    ∙ ap state_of c.self.view_is

pub invariant_of-self-2 : goal.invariant_of-self-2
invariant_of-self-2 c =
    let s = c.self.inside in
    agree_call s.first.items (items_of s.texts.items) (items_of s.texts.items) s.kept c.add.new.self s.marks s.marks s.failures c.next_fails-failed.new.self _ c.add.ensures.keep c.add.ensures.width c.add.ensures.calls (λ less. tt)
    refl (λ u. refl) (λ u. refl)
    (λ u b. c.self.invariant.current u b ∙ sym (ap (λ (t : State). t.contents u b) (read_state s.first.items (items_of s.texts.items) s.kept c.add.new.self s.marks s.failures c.next_fails-failed.new.self c.add.ensures.keep c.args.unit c.args.block c.next_fails-failed.result c.add.ensures.calls)))
    c.self.invariant

pub returns-clause-same : goal.returns-clause-same
returns-clause-same c =
    let s = c.self.inside in
    read_state s.first.items (items_of s.texts.items) s.kept c.add.new.self s.marks s.failures c.next_fails-failed.new.self c.add.ensures.keep c.args.unit c.args.block c.next_fails-failed.result c.add.ensures.calls
    ∙ ap state_of c.self.view_is
