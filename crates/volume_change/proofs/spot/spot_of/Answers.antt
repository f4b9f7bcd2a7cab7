use Rattle.volume_change.proofs.Spots.{spot_is}
use Rattle.volume_change.proofs.spot.spot_of.Goals as goal

pub returns : goal.returns
returns c =
    spot_is c.args.rows.now c.args.name.now c.lower-place.result c.has_name_at.result c.requires c.lower-place.ensures.within c.lower-place.ensures.lower c.lower-place.ensures.not_lower
    c.has_name_at.ensures
