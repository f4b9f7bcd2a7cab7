use Rattle.std.proofs.Common.{refl}
use Rattle.dump_read.proofs.StandingAt.{begins_at}
use Rattle.dump_read.proofs.standing.Standing.begin.Goals as goal

pub returns : goal.returns
returns c = λ head f1 kind is front next going stands adds on.
    begins_at head front next f1 c.args.name c.args.tracks kind c.args.self.now _ is going stands adds on refl c.saturating_add-self.ensures refl refl refl refl refl
