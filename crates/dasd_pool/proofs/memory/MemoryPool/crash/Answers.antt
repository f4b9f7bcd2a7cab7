use Rattle.std.proofs.Common.{◌≡◌, ◌∙◌, ℕ, [], List, length, take, sym, ap, subst, arith}
use Rattle.std.proofs.lemmas.List.{nil_from_length, take_all, take_min}
use Rattle.std.proofs.lemmas.Result.{IfOk-weaker}
use Rattle.dasd_pool.specs.declared.calls.Call.{Call}
use Rattle.dasd_pool.specs.declared.units.UnitText.{UnitText}
use Rattle.dasd_pool.specs.Disk.{State}
use Rattle.dasd_pool.specs.Calls.{first_state}
use Rattle.dasd_pool.specs.Memory.{MemoryView, fresh, state_of}
use Rattle.dasd_pool.specs.Tears.{IsTornFrom}
use Rattle.dasd_pool.proofs.Effects.{fresh_state}
use Rattle.dasd_pool.proofs.Left.{left_of}
use Rattle.dasd_pool.proofs.Tearing.{torn_left, torn_first}
use Rattle.dasd_pool.proofs.memory.MemoryPool.crash.Goals as goal

pub returns-in_err-units-clause-possible : goal.returns-in_err-units-clause-possible
returns-in_err-units-clause-possible c = λ since le. torn_left c.args.tear c.args.self.now.units c.args.self.now.calls c.args.calls since le

pub returns-clause-possible : goal.returns-clause-possible
returns-clause-possible c = λ since le. torn_left c.args.tear c.args.self.now.units c.args.self.now.calls c.args.calls since le

pub returns-clause-first : goal.returns-clause-first
returns-clause-first c =
    IfOk-weaker c.new-2.result (λ m. m ≡ fresh c.in_ok-units.units.items c.new.result.items c.keep.result) _ (λ m is none u b less within.
    let units : c.deref.result.now ≡ c.args.self.now.units = c.deref.ensures.value ∙ ap (λ (v : MemoryView). v.units) c.self.view_is in
    let no_calls : c.calls-kept.result.now ≡ [] =
    nil_from_length c.calls-kept.result.now (omega (arith, ap length c.calls-kept.ensures, c.self.invariant.most, ap (λ (v : MemoryView). v.keep) c.self.view_is, none)) in
    let none_kept : take c.min-count.result c.calls-kept.result.now ≡ [] = ap (λ (cs : List Call). take c.min-count.result cs) no_calls ∙ take_all c.min-count.result [] (omega arith) in
    let torn : IsTornFrom c.args.tear c.args.self.now.units (take c.min-count.result c.calls-kept.result.now) c.in_ok-units.units.items =
    subst (λ (us : List UnitText). IsTornFrom c.args.tear us (take c.min-count.result c.calls-kept.result.now) c.in_ok-units.units.items) units c.in_ok-units.ensures.torn in
    ap (λ (s : State). s.contents u b) (ap state_of is ∙ fresh_state c.keep.result c.in_ok-units.units.items c.new.result.items)
    ∙ torn_first c.args.tear c.args.self.now.units c.in_ok-units.units.items _ none_kept torn u b less within)
    c.new-2.ensures.fresh

pub returns-clause-state : goal.returns-clause-state
returns-clause-state c =
    IfOk-weaker c.new-2.result (λ m. m ≡ fresh c.in_ok-units.units.items c.new.result.items c.keep.result) _
    (λ m is. ap state_of is ∙ fresh_state c.keep.result c.in_ok-units.units.items c.new.result.items ∙ sym (ap (λ (v : MemoryView). first_state v.units) is)) c.new-2.ensures.fresh

pub returns-clause-left : goal.returns-clause-left
returns-clause-left c =
    IfOk-weaker c.new-2.result (λ m. m ≡ fresh c.in_ok-units.units.items c.new.result.items c.keep.result) _ (λ m is some since le.
    let units : c.deref.result.now ≡ c.args.self.now.units = c.deref.ensures.value ∙ ap (λ (v : MemoryView). v.units) c.self.view_is in
    let calls : c.calls-kept.result.now ≡ c.args.self.now.calls = c.calls-kept.ensures ∙ ap (λ (v : MemoryView). v.calls) c.self.view_is in
    let front : take c.min-count.result c.calls-kept.result.now ≡ take c.args.calls c.args.self.now.calls =
    ap (λ (n : ℕ). take n c.calls-kept.result.now) c.min-count.ensures ∙ take_min c.args.calls c.calls-kept.result.now ∙ ap (λ (cs : List Call). take c.args.calls cs) calls in
    let new : m.units ≡ c.in_ok-units.units.items = ap (λ (v : MemoryView). v.units) is in
    let own : IsTornFrom c.args.tear c.deref.result.now (take c.min-count.result c.calls-kept.result.now) m.units =
    subst (λ (us : List UnitText). IsTornFrom c.args.tear c.deref.result.now (take c.min-count.result c.calls-kept.result.now) us) (sym new) c.in_ok-units.ensures.torn in
    let torn : IsTornFrom c.args.tear c.args.self.now.units (take c.args.calls c.args.self.now.calls) m.units =
    subst (λ (us : List UnitText). IsTornFrom c.args.tear us (take c.args.calls c.args.self.now.calls) m.units) units
    (subst (λ (cs : List Call). IsTornFrom c.args.tear c.deref.result.now cs m.units) front own) in
    let state : state_of m ≡ first_state m.units =
    ap state_of is ∙ fresh_state c.keep.result c.in_ok-units.units.items c.new.result.items ∙ sym (ap (λ (v : MemoryView). first_state v.units) is) in
    left_of c.args.tear c.args.self.now m c.args.calls torn state some since le)
    c.new-2.ensures.fresh
