-- What a unit is.
use Rattle.std.proofs.Common.{◌≡◌}
use Rattle.volume_model.specs.Unit.{OnlineVolume, online}

pub same_online : (a b : OnlineVolume) → online a ≡ online b → a ≡ b
same_online a b same = cc
