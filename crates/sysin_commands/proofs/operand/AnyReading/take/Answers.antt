use Rattle.std.proofs.Common.{rules}
use Rattle.sysin_commands.proofs.AnyOperands.{read_on}
use Rattle.sysin_commands.proofs.operand.AnyReading.take.Goals as goal

pub returns-clause-read : goal.returns-clause-read
returns-clause-read c = read_on c.args.self.verb c.args.self.place c.in_ok-place.place c.args.token.now c.requires (search rules)
