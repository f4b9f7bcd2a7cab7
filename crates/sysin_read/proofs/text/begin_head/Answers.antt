use Rattle.std.proofs.Common.{subst}
use Rattle.sysin_heads.specs.declared.head.HeadPlace.{HeadPlace}
use Rattle.sysin_heads.specs.declared.head.HeadPlace.TheVariants as head_places
use Rattle.sysin_heads.specs.Reading.{Stops}
use Rattle.sysin_read.proofs.Taking.{stops_none}
use Rattle.sysin_read.proofs.text.begin_head.Goals as goal

pub returns-in-Err-clause-refused : goal.returns-in-Err-clause-refused
returns-in-Err-clause-refused c = stops_none head_places.Start c.args.placed.now.token c.in-Err.fault
    (subst (λ (p : HeadPlace). Stops p c.args.placed.now.token c.in-Err.fault) c.new-head.ensures c.in-Err.ensures.refused)
