use Rattle.std.proofs.Common.{◌≡◌, true, ℕ, List, All, subst}
use Rattle.std.proofs.lemmas.List.{take_all}
use Rattle.std.proofs.lemmas.List.Elements.{All-more}
use Rattle.dasd_pool.specs.Disk.{Shape}
use Rattle.volume_change.specs.declared.change.Change.{Change}
use Rattle.unit_load.proofs.Reading.{reads_then}
use Rattle.unit_session.proofs.planned.ask_units.Goals as goal

pub loop-unit-preserved : goal.loop-unit-preserved
loop-unit-preserved g c =
    let inv = c.loop-unit.invariant in
    let ask = c.ask_to_write.ensures in
    let item = c.loop-unit-item.result in
    let P : ℕ × Change → Type 0 = (λ (change : ℕ × Change). (g.P.Pool.shape c.args.journal.now.pool).may_write change.0 ≡ true) in
    record {
      reads = reads_then g.P.Pool _ _ _ inv.reads (record { shape = ask.shape; later = ask.cause.later; same = ask.same; runs = ask.runs; status = ask.status });
      writable =
          All-more P c.args.changes.now c.loop-unit.unit-index item c.loop-unit-test.true inv.writable
          (subst P c.loop-unit-item.is (subst (λ (s : Shape). s.may_write item.0 ≡ true) inv.reads.shape c.in-Ok.ensures.may));
    }

pub returns-clause-writable : goal.returns-clause-writable
returns-clause-writable g c =
    let P : ℕ × Change → Type 0 = (λ (change : ℕ × Change). (g.P.Pool.shape c.args.journal.now.pool).may_write change.0 ≡ true) in
    subst (λ (l : List (ℕ × Change)). All P l) (take_all c.loop-unit.unit-index c.args.changes.now c.loop-unit-test.false) c.loop-unit.invariant.writable

pub returns-in_default-clause-reads : goal.returns-in_default-clause-reads
returns-in_default-clause-reads g c =
    let ask = c.ask_to_write.ensures in
    reads_then g.P.Pool _ _ _ c.loop-unit.invariant.reads (record { shape = ask.shape; later = ask.cause.later; same = ask.same; runs = ask.runs; status = ask.status })
