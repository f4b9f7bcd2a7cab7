use Rattle.std.proofs.Common.{refl, sym, map}
use Rattle.std.proofs.lemmas.Bool.{false≢true}
use Rattle.job_script.specs.Ends.{after_of}
use Rattle.adr_top.specs.Parts.{sink_seen}
use Rattle.adr_top.specs.Reading.{source_seen}
use Rattle.adr_top.proofs.Asked.{asked_lawful, agrees_at, not_asked, refused_words, ends_asked}
use Rattle.adr_top.proofs.runner.run_words.Goals as goal

pub run-requires-clause-names : goal.run-requires-clause-names
run-requires-clause-names g c =
    let read = c.in-Ok.ensures.read in
    asked_lawful (g.P.Pool.shape c.args.pool) read.0 c.in-Ok.asked _ _ read.2 (agrees_at c.in-Ok.asked _ _ c.units.ensures (c.if-agrees.ensures.0 refl))

pub returns-then-agrees-clause-ends : goal.returns-then-agrees-clause-ends
returns-then-agrees-clause-ends g c =
    let read = c.in-Ok.ensures.read in
    ends_asked g.P.Pool c.args.words.now (g.P.Pool.shape c.args.pool).units (map (λ out. out.name) c.args.outs.items) (map (λ one. one.name) c.args.ins.now.items) _ c.args.today
    (source_seen g.S.Source c.args.sysin.now c.run.new.sysin) (source_seen g.H.Source c.args.held.now c.run.new.held) (sink_seen g.O.Sink c.args.out.now c.run.new.out) c.args.pool
    (after_of c.run.result) c.in-Ok.asked (
      (read.0, read.1, read.2),
      rw (sym c.deref.ensures.value, sym c.deref-in-Ok.ensures.value) (agrees_at c.in-Ok.asked _ _ c.units.ensures (c.if-agrees.ensures.0 refl)),
    ) c.run.ensures.ends

pub returns-in-Ok-clause-ends : goal.returns-in-Ok-clause-ends
returns-in-Ok-clause-ends g c =
    let read = c.in-Ok.ensures.read in
    refused_words g.P.Pool c.args.words.now (g.P.Pool.shape c.args.pool).units (map (λ out. out.name) c.args.outs.items) (map (λ one. one.name) c.args.ins.now.items) _ c.args.today
    (source_seen g.S.Source c.args.sysin.now c.args.sysin.now) (source_seen g.H.Source c.args.held.now c.args.held.now) (sink_seen g.O.Sink c.args.out.now c.refuse.new.out) c.args.pool
    (after_of c.refuse.result)
    (rw (sym c.deref.ensures.value, sym c.deref-in-Ok.ensures.value)
    (not_asked c.args.words.now (g.P.Pool.shape c.args.pool).units _ _ read.0 c.in-Ok.asked read.1 read.2
    (λ agrees. false≢true (c.if-agrees.ensures.1 (agrees_at c.in-Ok.asked _ _ (sym c.units.ensures) agrees)))))
    (record { left = refl; faults = refl }) (record { left = refl; faults = refl }) c.refuse.ensures.ends
