use Rattle.std.proofs.Common.{refl, ◌∙◌}
use Rattle.dump_fmt.proofs.Written.{start_so}
use Rattle.dump_fmt.proofs.writer.DumpWriter.start.Goals as goal

pub returns-clause-begun : goal.returns-clause-begun
returns-clause-begun g c =
    start_so _ c.args.outs.items c.begin.new.self.outs.items c.send.new.self.outs.items c.args.head
    (record { places = c.in-Ok.places; digest = c.new.result; parts = 0; tracks = 0; due = 0 })
    c.begin.new.self.progress c.send.new.self.progress c.as_slice.result.now c.args.places.now
    c.requires.head c.requires.within c.requires.distinct c.in-Ok.ensures.0 refl refl c.new.ensures c.begin.ensures.progress c.begin.ensures.outs
    (c.as_slice.ensures.same ∙ c.in-Ok.ensures.1) c.send.ensures.outs
    c.send.ensures.parts c.send.ensures.tracks c.send.ensures.places c.send.ensures.digest
