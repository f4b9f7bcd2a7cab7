use Rattle.sysin_commands.proofs.Making.{end_given, end_early}
use Rattle.sysin_commands.proofs.command.CommandReading.finish.Goals as goal

pub returns-clause-given : goal.returns-clause-given
returns-clause-given c = end_given c.args.self c.is_between-between.result c.made.result c.end_of.result c.is_between-between.ensures c.made.ensures.some c.end_of.ensures.given

pub returns-clause-early : goal.returns-clause-early
returns-clause-early c =
    end_early c.args.self c.is_between-between.result c.made.result c.end_of.result c.is_between-between.ensures c.made.ensures.some c.made.ensures.none c.end_of.ensures.early
