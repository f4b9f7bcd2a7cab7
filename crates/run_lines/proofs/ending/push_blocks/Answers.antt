use Rattle.std.specs.Prelude.{codes}
use Rattle.std.specs.Fmt.{decimal}
use Rattle.run_lines.proofs.Lines.{four_more}
use Rattle.run_lines.proofs.ending.push_blocks.Goals as goal

pub returns-clause-text : goal.returns-clause-text
returns-clause-text c =
    four_more c.args.line.now c.push.new.self c.push_number.new.self c.push-2.new.self c.push_number-2.new.self (codes ": JOURNAL BLOCKS ") (decimal c.args.have) (codes " NEED ") (decimal c.args.need)
    c.push.ensures.text c.push_number.ensures.text c.push-2.ensures.text c.push_number-2.ensures.text
