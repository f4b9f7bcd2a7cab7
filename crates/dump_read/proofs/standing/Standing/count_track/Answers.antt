use Rattle.std.proofs.Common.{ℕ, ap, Some, refl}
use Rattle.dump_read.proofs.StandingAt.{text_at}
use Rattle.dump_read.proofs.standing.Standing.count_track.Goals as goal

pub returns-in-Some : goal.returns-in-Some
returns-in-Some c = λ head text front next going stands adds on.
    text_at head front next text c.args.self.now _ c.in-Some.part going stands adds on c.in-Some.is refl refl refl refl
    (ap (λ (n : ℕ). Some (record { due = c.in-Some.part.due; read = n })) c.saturating_add-part.ensures) refl refl
