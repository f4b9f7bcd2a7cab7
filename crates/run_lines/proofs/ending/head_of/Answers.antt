use Rattle.std.proofs.Common.{◌+◌, ◌++◌, ℕ, List, ap, sym}
use Rattle.std.specs.Prelude.{codes}
use Rattle.std.specs.Fmt.{decimal, digits}
use Rattle.run_lines.specs.Endings.{run_head, stop_head}
use Rattle.run_lines.proofs.Lines.{status_20}
use Rattle.run_lines.proofs.ending.head_of.Goals as goal

abbrev head : ℕ → List ℕ
head status = run_head (500 + status) 84 ++ codes "RUN ENDED WITH STATUS " ++ decimal status

pub returns-in-Pool-clause-text : goal.returns-in-Pool-clause-text
unfolding digits
returns-in-Pool-clause-text c = ap stop_head (sym c.in-Pool.is)

pub returns-in-BadJournal-clause-text : goal.returns-in-BadJournal-clause-text
unfolding digits
returns-in-BadJournal-clause-text c = ap head (status_20 c.args.end c.in-BadJournal.is)

pub returns-in-Source-clause-text : goal.returns-in-Source-clause-text
unfolding digits
returns-in-Source-clause-text c = ap stop_head (sym c.in-Source.is)

pub returns-in-Words-clause-text : goal.returns-in-Words-clause-text
unfolding digits
returns-in-Words-clause-text c = ap stop_head (sym c.in-Words.is)

pub returns-in-Long-clause-text : goal.returns-in-Long-clause-text
unfolding digits
returns-in-Long-clause-text c = ap stop_head (sym c.in-Long.is)

pub returns-in-Wrong-clause-text : goal.returns-in-Wrong-clause-text
unfolding digits
returns-in-Wrong-clause-text c = ap stop_head (sym c.in-Wrong.is)

pub returns-in-NotBuilt-clause-text : goal.returns-in-NotBuilt-clause-text
unfolding digits
returns-in-NotBuilt-clause-text c = ap stop_head (sym c.in-NotBuilt.is)
