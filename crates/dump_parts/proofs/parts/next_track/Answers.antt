use Rattle.dump_parts.proofs.Within.{track_sound}
use Rattle.dump_parts.proofs.parts.next_track.Goals as goal

pub returns-in-Some-Track-clause-sound : goal.returns-in-Some-Track-clause-sound
returns-in-Some-Track-clause-sound g c =
    let (front, part, is) = c.requires in
    let gives = rw (c.in-Some-Track.is, c.in-Some-Track.field-0-is) at (c.in_ok-track.ensures.read) in
    track_sound (g.R.Tape.seen c.next.new.reel) c.next.new.self c.args.reader.now.head front c.in-Some-Track.track c.in_ok-track.ensures.head (gives front is.reading)
