use Rattle.std.proofs.Common.{rules}
use Rattle.sysin_filters.proofs.Taking.{no_stop}
use Rattle.sysin_filters.proofs.filter.started.Goals as goal

pub returns-in_err-reading-clause-refused : goal.returns-in_err-reading-clause-refused
returns-in_err-reading-clause-refused c = absurd (no_stop c.new.result c.args.verb c.args.parts c.args.token.now c.in-Some.keyword c.in_err-reading.field-0.0 c.new.ensures (search rules) (search rules) (c.in_err-reading.ensures {u = tt}).refused)
