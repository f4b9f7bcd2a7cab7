use Rattle.std.proofs.Common.{◌≡◌, ◌∙◌, Bool, refl, sym, ap}
use Rattle.std.specs.List.{list_any}
use Rattle.std.specs.Prelude.{◌||◌, ◌==◌}
use Rattle.std.proofs.lemmas.Bool.{both_ways}
use Rattle.dasd_pool.specs.Disk.{State}
use Rattle.dasd_pool.specs.Memory.{MemoryView, view_of, state_of, fails, sync_step}
use Rattle.dasd_pool.specs.Calls.{items_of}
use Rattle.dasd_pool.proofs.Effects.{sync_state, agree_call}
use Rattle.dasd_pool.proofs.memory.MemoryPool.sync_blocks.Goals as goal

pub invariant_of-self : goal.invariant_of-self
invariant_of-self c =
    let s = c.self.inside in
    let told : c.next_fails-failed.result ≡ fails (view_of s.first.items (items_of s.texts.items) s.kept s.marks s.failures) =
    c.next_fails-failed.ensures.fails ∙ ap (λ (full : Bool). list_any (λ n. n == s.failures.count) s.failures.told.items || full) c.is_full.ensures in
    agree_call s.first.items (items_of s.texts.items) (items_of s.texts.items) s.kept c.add.new.self s.marks s.marks s.failures c.next_fails-failed.new.self _ c.add.ensures.keep c.add.ensures.width c.add.ensures.calls (λ less. tt)
    refl (λ u. refl) (λ u. refl)
    (λ u b. c.self.invariant.current u b
    ∙ sym (ap (λ (t : State). t.contents u b) (sync_state s.first.items (items_of s.texts.items) s.kept c.add.new.self s.marks s.failures c.next_fails-failed.new.self c.add.ensures.keep c.next_fails-failed.result s.marks told c.add.ensures.calls (λ is. refl) (λ is. absurd (both_ways _ is c.if-failed.true)))))
    c.self.invariant

pub returns-then-failed-clause-state : goal.returns-then-failed-clause-state
returns-then-failed-clause-state c =
    let s = c.self.inside in
    let told : c.next_fails-failed.result ≡ fails (view_of s.first.items (items_of s.texts.items) s.kept s.marks s.failures) =
    c.next_fails-failed.ensures.fails ∙ ap (λ (full : Bool). list_any (λ n. n == s.failures.count) s.failures.told.items || full) c.is_full.ensures in
    sync_state s.first.items (items_of s.texts.items) s.kept c.add.new.self s.marks s.failures c.next_fails-failed.new.self c.add.ensures.keep c.next_fails-failed.result s.marks told c.add.ensures.calls (λ is. refl) (λ is. absurd (both_ways _ is c.if-failed.true))
    ∙ ap (λ (v : MemoryView). sync_step (fails v) (state_of v)) c.self.view_is

pub invariant_of-self-2 : goal.invariant_of-self-2
invariant_of-self-2 c =
    let s = c.self.inside in
    let told : c.next_fails-failed.result ≡ fails (view_of s.first.items (items_of s.texts.items) s.kept s.marks s.failures) =
    c.next_fails-failed.ensures.fails ∙ ap (λ (full : Bool). list_any (λ n. n == s.failures.count) s.failures.told.items || full) c.is_full.ensures in
    agree_call s.first.items (items_of s.texts.items) (items_of s.texts.items) s.kept c.add.new.self s.marks c.clear.new.self s.failures c.next_fails-failed.new.self _ c.add.ensures.keep c.add.ensures.width c.add.ensures.calls (λ less. tt)
    refl (λ u. refl) c.clear.ensures.lengths
    (λ u b. c.self.invariant.current u b
    ∙ sym (ap (λ (t : State). t.contents u b) (sync_state s.first.items (items_of s.texts.items) s.kept c.add.new.self s.marks s.failures c.next_fails-failed.new.self c.add.ensures.keep c.next_fails-failed.result c.clear.new.self told c.add.ensures.calls (λ is. absurd (both_ways _ c.if-failed.false is)) (λ is. c.clear.ensures.clear))))
    c.self.invariant

pub returns-clause-state : goal.returns-clause-state
returns-clause-state c =
    let s = c.self.inside in
    let told : c.next_fails-failed.result ≡ fails (view_of s.first.items (items_of s.texts.items) s.kept s.marks s.failures) =
    c.next_fails-failed.ensures.fails ∙ ap (λ (full : Bool). list_any (λ n. n == s.failures.count) s.failures.told.items || full) c.is_full.ensures in
    sync_state s.first.items (items_of s.texts.items) s.kept c.add.new.self s.marks s.failures c.next_fails-failed.new.self c.add.ensures.keep c.next_fails-failed.result c.clear.new.self told c.add.ensures.calls (λ is. absurd (both_ways _ c.if-failed.false is)) (λ is. c.clear.ensures.clear)
    ∙ ap (λ (v : MemoryView). sync_step (fails v) (state_of v)) c.self.view_is
