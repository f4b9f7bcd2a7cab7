use Rattle.std.proofs.Common.{refl}
use Rattle.unit_session.proofs.copies.given_by.Goals as goal

pub returns : goal.returns
returns c =
    let both = c.in-Some-Some in
    (_, refl, (both.volume.now, both.row.now, both.ensures.found, both.ensures'.found, refl, refl, c.in_ok-tracks.ensures))
