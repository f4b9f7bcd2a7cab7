use Rattle.plan_core.proofs.KeptTracks.{kept_of_tracks}
use Rattle.plan_core.proofs.laws.release_laws.Goals as goal

pub returns : goal.returns
returns c = kept_of_tracks
