use Rattle.job_dumps.proofs.RowParts.{places_gone}
use Rattle.job_dumps.proofs.parts.without_places.Goals as goal

pub returns : goal.returns
returns c = places_gone c.args.f1.now c.put_over.new.bytes c.put_over-2.new.bytes _ c.told-f1 c.put_over.ensures c.put_over-2.ensures
