use Rattle.std.proofs.Common.{◌≢◌, List, All, arith, subst, sym}
use Rattle.ckd_image.specs.declared.track.Rec.{Rec}
use Rattle.ckd_image.specs.declared.track.Track.{Track}
use Rattle.org_reloc.proofs.Members.{none_numbered}
use Rattle.org_reloc.proofs.member.start_at.Goals as goal

pub returns-in_err-recs-clause-none : goal.returns-in_err-recs-clause-none
returns-in_err-recs-clause-none c =
    rw c.from_residual.ensures (none_numbered c.args.tracks.now c.args.place c.index-tracks-index.result (omega arith) c.index-tracks-index.is
    (subst (λ (track : Track). All (λ rec. rec.r ≢ c.args.place.number) track.recs) (sym c.index-tracks-index.is)
    (subst (λ (recs : List Rec). All (λ rec. rec.r ≢ c.args.place.number) recs) c.as_slice.ensures c.in_err-recs.ensures.none)))
