use Rattle.std.proofs.Common.{List, subst, slice_index_or}
use Rattle.vtoc_core.specs.declared.volume.Row.{Row}
use Rattle.volume_change.specs.Spot.{IsSpot}
use Rattle.volume_change.proofs.Names.{one_text}
use Rattle.volume_change.proofs.Spots.{none_named}
use Rattle.volume_change.proofs.spot.find.Goals as goal

pub returns-else-spot-clause-none : goal.returns-else-spot-clause-none
returns-else-spot-clause-none c = λ k d lt named.
    let rows = c.args.volume.now.rows in
    let bytes = c.name_bytes-bytes.result in
    let is : IsSpot rows bytes c.spot_of-spot.result = subst (λ (found : List Row). IsSpot found bytes c.spot_of-spot.result) c.as_slice.ensures c.spot_of-spot.ensures in
    none_named rows bytes c.spot_of-spot.result is c.if-spot.false k d lt (one_text c.args.name.now (slice_index_or rows k d).name bytes named c.name_bytes-bytes.ensures)
