use Rattle.std.proofs.Common.{sym, arith}
use Rattle.std.proofs.lemmas.List.{take_all, length-take-le}
use Rattle.sysin_text.proofs.line.first_columns.Goals as goal

pub slice_bounds-result-end : goal.slice_bounds-result-end
slice_bounds-result-end c = sym (length-take-le 72 c.args.line.now (omega arith))

pub returns-then-line-le-COLUMNS-clause-columns : goal.returns-then-line-le-COLUMNS-clause-columns
returns-then-line-le-COLUMNS-clause-columns c = sym (take_all 72 c.args.line.now (omega arith))

pub returns-else-line-le-COLUMNS-clause-within : goal.returns-else-line-le-COLUMNS-clause-within
returns-else-line-le-COLUMNS-clause-within c = omega (arith, length-take-le 72 c.args.line.now (omega arith))
