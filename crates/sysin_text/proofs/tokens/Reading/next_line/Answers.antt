use Rattle.std.proofs.Common.{take}
use Rattle.sysin_text.proofs.Steps.{next_line}
use Rattle.sysin_text.proofs.tokens.Reading.next_line.Goals as goal

pub returns-clause-left : goal.returns-clause-left
returns-clause-left c =
    let now = c.args.self.now in
    rw (c.read-self.ensures.text, c.read-self.ensures.goes_on, c.may_start-self.ensures)
    (next_line now.starts now.line.goes_on now.number now.place (take now.line.len now.line.text) now.rest.now c.in-Some.line.now c.in-Some.rest.now c.requires c.in-Some.ensures.found)
