use Rattle.std.proofs.Common.{◌∙◌, refl, arith}
use Rattle.dump_parts.specs.declared.parts.NextTrack.TheVariants as ends
use Rattle.dump_parts.specs.Reading.{with_texts}
use Rattle.dump_parts.proofs.Ended.{ended_by, more_none, more_text}
use Rattle.dump_parts.proofs.Within.{left_falls}
use Rattle.dump_parts.proofs.parts.pass_part.Goals as goal

pub tracks-init : goal.tracks-init
tracks-init g c = record { some = c.requires; more = λ front part is. more_none (g.R.Tape.seen c.args.reel.now) c.args.reader.now front part is; head = refl; same = refl; later = omega arith }

pub next_track-requires : goal.next_track-requires
next_track-requires g c =
    let (front, part, is) = c.tracks.invariant.some in
    let more = c.tracks.invariant.more front part is in
    (_, _, more.within)

pub returns-in-Whole-clause-ended : goal.returns-in-Whole-clause-ended
returns-in-Whole-clause-ended g c = λ front part is.
    let more = c.tracks.invariant.more front part is in
    let next = rw c.in-Whole.is at c.in_ok-next_track.ensures.next in
    ended_by (g.R.Tape.seen c.next_track.new.reel) c.next_track.new.reader front part more.texts ends.Whole _ refl (next _ _ more.within)

pub returns-in-Dropped-clause-ended : goal.returns-in-Dropped-clause-ended
returns-in-Dropped-clause-ended g c = λ front part is.
    let more = c.tracks.invariant.more front part is in
    let next = rw c.in-Dropped.is at c.in_ok-next_track.ensures.next in
    ended_by (g.R.Tape.seen c.next_track.new.reel) c.next_track.new.reader front part more.texts ends.Dropped _ refl (next _ _ more.within)

pub tracks-smaller-in-Track : goal.tracks-smaller-in-Track
tracks-smaller-in-Track g c =
    let (front, part, is) = c.tracks.invariant.some in
    let more = c.tracks.invariant.more front part is in
    let next = rw c.in-Track.is at c.in_ok-next_track.ensures.next in
    left_falls (g.R.Tape.seen c.tracks.reel) (g.R.Tape.seen c.next_track.new.reel) c.tracks.reader c.next_track.new.reader _ _ (with_texts part more.texts) _ more.within (next _ _ more.within)

pub tracks-preserved-in-Track : goal.tracks-preserved-in-Track
tracks-preserved-in-Track g c = record {
  some = c.tracks.invariant.some;
  more = λ front part is.
      let more = c.tracks.invariant.more front part is in
      let next = rw c.in-Track.is at c.in_ok-next_track.ensures.next in
      more_text (g.R.Tape.seen c.next_track.new.reel) c.next_track.new.reader front part more.texts _ (next _ _ more.within);
  head = c.in_ok-next_track.ensures.head ∙ c.tracks.invariant.head;
  same = c.in_ok-next_track.ensures.same ∙ c.tracks.invariant.same;
  later = omega (arith, c.tracks.invariant.later, c.in_ok-next_track.ensures.later);
}
