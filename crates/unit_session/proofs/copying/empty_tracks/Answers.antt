use Rattle.std.proofs.Common.{◌<◌, length, get_or, sym, ap, arith}
use Rattle.dasd_pool.specs.Disk.{is_at}
use Rattle.unit_session.specs.Copies.{is_among, contents_of}
use Rattle.unit_session.proofs.CopyingBlocks.{writes_then, at_among}
use Rattle.unit_session.proofs.CopyingTexts.{emptied_more, next_at}
use Rattle.unit_session.proofs.copying.empty_tracks.Goals as goal

pub returns-in_err-empty_track-clause-writes : goal.returns-in_err-empty_track-clause-writes
returns-in_err-empty_track-clause-writes g c =
    let copies = c.args.copies.now in
    let tracks = copies.empty.items in
    let items = c.deref-track-items.result.now in
    let index = c.loop-track.track-index in
    let track = get_or items index 0 in
    let at = next_at tracks items index 0 c.deref-track-items.ensures.value c.loop-track-test.true in
    let less : index < length tracks = omega (arith, c.loop-track-test.true, ap length c.deref-track-items.ensures.value) in
    let all = is_among copies.unit tracks in
    writes_then g.P.Pool all all (is_at copies.unit track) _ _ _ (λ u b apart. apart) (at_among copies.unit tracks track (index, less, sym at))
    c.loop-track.invariant.writes c.empty_track.ensures.writes

pub loop-track-preserved : goal.loop-track-preserved
loop-track-preserved g c =
    let copies = c.args.copies.now in
    let tracks = copies.empty.items in
    let items = c.deref-track-items.result.now in
    let index = c.loop-track.track-index in
    let track = get_or items index 0 in
    let at = next_at tracks items index 0 c.deref-track-items.ensures.value c.loop-track-test.true in
    let less : index < length tracks = omega (arith, c.loop-track-test.true, ap length c.deref-track-items.ensures.value) in
    let all = is_among copies.unit tracks in
    let inv = c.loop-track.invariant in
    let does = c.empty_track.ensures in
    record {
      writes = writes_then g.P.Pool all all (is_at copies.unit track) _ _ _ (λ u b apart. apart) (at_among copies.unit tracks track (index, less, sym at)) inv.writes does.writes;
      emptied = λ told.
          emptied_more copies c.requires.may.apart (contents_of g.P.Pool c.loop-track.journal) (contents_of g.P.Pool c.empty_track.new.journal) index track less at
          ((does.writes.runs told).touches.contents) (inv.emptied told) (c.in_ok-empty_track.ensures.emptied told);
    }

pub returns-clause-emptied : goal.returns-clause-emptied
returns-clause-emptied g c = λ told k d less.
    let long = ap length c.deref-track-items.ensures.value in
    c.loop-track.invariant.emptied told k d (omega (arith, less, long, c.loop-track-test.false))
