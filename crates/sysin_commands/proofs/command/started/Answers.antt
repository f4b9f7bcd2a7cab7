use Rattle.std.proofs.Common.{rules, inr}
use Rattle.sysin_commands.proofs.Taking.{at_first, twice, placed_starts, no_stop_new}
use Rattle.sysin_commands.proofs.command.started.Goals as goal

pub returns-then-clashes-clause-refused : goal.returns-then-clashes-clause-refused
returns-then-clashes-clause-refused c = inr (twice (at_first c.args.verb c.args.operands) c.args.token.now c.in-Some.keyword (search rules) (search rules))

pub returns-in-Ok-clause-taken : goal.returns-in-Ok-clause-taken
returns-in-Ok-clause-taken c =
    placed_starts c.new.result c.args.verb c.args.operands c.args.token.now c.in-Some.keyword c.in-Ok.reading.place c.placed.result c.new.ensures (search rules) (search rules) (search rules)
    c.placed.ensures.placed

pub returns-in-Err-clause-refused : goal.returns-in-Err-clause-refused
returns-in-Err-clause-refused c = absurd (no_stop_new c.new.result c.args.verb c.args.token.now c.in-Some.keyword c.in-Err.fault c.new.ensures (search rules) (search rules))
