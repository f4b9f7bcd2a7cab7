use Rattle.std.proofs.Common.{refl}
use Rattle.dump_read.proofs.StandingAt.{end_at}
use Rattle.dump_read.proofs.standing.Standing.end_part.Goals as goal

pub returns : goal.returns
returns c = λ head front next going stands adds on.
    end_at head front next c.args.self.now _ c.in-Some.part going stands adds on c.in-Some.is refl refl c.saturating_add-self.ensures c.saturating_add-self-2.ensures refl refl refl
