use Rattle.std.proofs.Common.{List, ℕ, subst, ◌∙◌}
use Rattle.dasd_pool.specs.Stream.{AppendsSome}
use Rattle.run_lines.specs.Endings.{last_line}
use Rattle.run_lines.proofs.writing.write_behind.Goals as goal
use Rattle.dasd_pool.proofs.Streams.{appends_some_then}

pub returns-clause-some : goal.returns-clause-some
returns-clause-some g c =
    let P : List ℕ → Type 0 = λ text. AppendsSome (g.O.Sink.taken c.write_all.new.out) (g.O.Sink.taken c.write_all-2.new.out) text in
    appends_some_then _ _ _ c.args.line.now (last_line c.args.end) c.in_ok-write_all.ensures.written (subst P (c.as_slice.ensures ∙ c.line.ensures) c.write_all-2.ensures.some)
