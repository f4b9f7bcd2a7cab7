use Rattle.std.proofs.Common.{◌+◌, List, ℕ, subst, sym}
use Rattle.dsn_filter.specs.Text.{IsFirstWrong}
use Rattle.enq_table.specs.HeldText.{IsLine}
use Rattle.enq_table.proofs.LineText.{tail_wrong}
use Rattle.enq_table.proofs.line.hold_of.Goals as goal

pub returns-in-Err-clause-refused : goal.returns-in-Err-clause-refused
returns-in-Err-clause-refused c =
    let front = c.in_ok-mode.ensures.read in
    subst (λ (t : List ℕ). IsFirstWrong IsLine t (4 + c.in-Err.place)) (sym front.1)
    (tail_wrong front.0 c.in_ok-mode.rest.now c.in_ok-mode.mode c.in-Err.place front.2 c.in-Err.ensures.refused)
