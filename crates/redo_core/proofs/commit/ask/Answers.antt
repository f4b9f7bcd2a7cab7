use Rattle.std.proofs.Common.{subst}
use Rattle.std.specs.Prelude.{IsTrue}
use Rattle.std.proofs.lemmas.List.{take_all}
use Rattle.std.proofs.lemmas.List.Elements.{All-more}
use Rattle.dasd_pool.specs.Disk.{Shape}
use Rattle.redo_core.specs.declared.entries.Entry.{Entry}
use Rattle.redo_core.specs.Phases.{TakeWrites}
use Rattle.redo_core.proofs.Looking.{looks_then}
use Rattle.redo_core.proofs.commit.ask.Goals as goal

pub loop-entry-preserved : goal.loop-entry-preserved
loop-entry-preserved g c =
    let inv = c.loop-entry.invariant in
    let asked = c.ask_to_write.ensures in
    let Takes : Entry → Type 0 = λ entry. IsTrue ((g.P.Pool.shape c.args.pool.now).may_write entry.unit) in
    let takes : Takes c.entry-item.result = subst (λ (s : Shape). IsTrue (s.may_write c.entry-item.result.unit)) inv.looks.shape c.in_ok-ask_to_write.ensures.may in
    record {
      looks = looks_then g.P.Pool _ _ _ inv.looks (record { shape = asked.shape; later = asked.cause.later; same = asked.same; runs = asked.runs });
      may = All-more Takes c.args.entries.now c.loop-entry.entry-index c.entry-item.result c.loop-entry-test.true inv.may (subst Takes c.entry-item.is takes);
    }

pub returns-clause-may : goal.returns-clause-may
returns-clause-may g c =
    subst (TakeWrites (g.P.Pool.shape c.args.pool.now)) (take_all c.loop-entry.entry-index c.args.entries.now c.loop-entry-test.false) c.loop-entry.invariant.may
