use Rattle.enq_table.specs.Table.{StandsAgainst}
use Rattle.enq_table.proofs.Holders.{one_first}
use Rattle.enq_table.proofs.LineText.{one_hold}
use Rattle.enq_table.proofs.Taking.{one_table, no_fault, one_fault}
use Rattle.enq_table.proofs.laws.held_laws.Goals as goal

pub returns : goal.returns
returns c = record {
  hold = one_hold;
  table = one_table;
  none = no_fault;
  fault = one_fault;
  against = λ table asked left right h k. one_first (λ held. StandsAgainst held asked) table left right h k;
}
