use Rattle.std.proofs.Common.{rules, inr}
use Rattle.sysin_commands.specs.CommandProgress.{PartStands}
use Rattle.sysin_commands.proofs.Taking.{why_is}
use Rattle.sysin_commands.proofs.command.inside.Goals as goal

pub returns-in-Err-clause-refused : goal.returns-in-Err-clause-refused
returns-in-Err-clause-refused c = inr (
  c.in-Err.known,
  (search rules),
  why_is (PartStands c.args.place c.args.token.now) c.part_stands-stands.result c.in-Err.known c.why.result c.part_stands-stands.ensures c.why.ensures,
)
