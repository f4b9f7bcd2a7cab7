use Rattle.std.proofs.Common.{◌<◌, map, length, get_or, sym, ap, arith}
use Rattle.dasd_pool.specs.Disk.{is_at}
use Rattle.unit_session.specs.declared.copies.TextMove.{TextMove}
use Rattle.unit_session.specs.Copies.{is_among, contents_of}
use Rattle.unit_session.proofs.CopyingBlocks.{writes_then, at_among}
use Rattle.unit_session.proofs.CopyingTexts.{copied_more, next_at}
use Rattle.unit_session.proofs.copying.copy_texts.Goals as goal
use Rattle.ckd_image.proofs.Lists.{contains_map}

pub returns-in_err-copy_text-clause-writes : goal.returns-in_err-copy_text-clause-writes
returns-in_err-copy_text-clause-writes g c =
    let copies = c.args.copies.now in
    let moves = copies.moves.items in
    let items = c.deref-text-items.result.now in
    let index = c.loop-text.text-index in
    let move = get_or items index (record { from = 0; to = 0 }) in
    let at = next_at moves items index (record { from = 0; to = 0 }) c.deref-text-items.ensures.value c.loop-text-test.true in
    let less : index < length moves = omega (arith, c.loop-text-test.true, ap length c.deref-text-items.ensures.value) in
    let tos = map (λ m. m.to) moves in
    let all = is_among copies.unit tos in
    writes_then g.P.Pool all all (is_at copies.unit move.to) _ _ _ (λ u b apart. apart)
    (at_among copies.unit tos move.to (contains_map (λ (m : TextMove). m.to) moves move (index, less, sym at))) c.loop-text.invariant.writes c.copy_text.ensures.writes

pub loop-text-preserved : goal.loop-text-preserved
loop-text-preserved g c =
    let copies = c.args.copies.now in
    let moves = copies.moves.items in
    let items = c.deref-text-items.result.now in
    let index = c.loop-text.text-index in
    let move = get_or items index (record { from = 0; to = 0 }) in
    let at = next_at moves items index (record { from = 0; to = 0 }) c.deref-text-items.ensures.value c.loop-text-test.true in
    let less : index < length moves = omega (arith, c.loop-text-test.true, ap length c.deref-text-items.ensures.value) in
    let tos = map (λ m. m.to) moves in
    let all = is_among copies.unit tos in
    let inv = c.loop-text.invariant in
    let does = c.copy_text.ensures in
    record {
      writes = writes_then g.P.Pool all all (is_at copies.unit move.to) _ _ _ (λ u b apart. apart)
          (at_among copies.unit tos move.to (contains_map (λ (m : TextMove). m.to) moves move (index, less, sym at))) inv.writes does.writes;
      copied = λ told.
          copied_more copies c.requires.may.apart (contents_of g.P.Pool c.args.journal.now) (contents_of g.P.Pool c.loop-text.journal) (contents_of g.P.Pool c.copy_text.new.journal)
          index move c.requires.may.unwritten less at ((inv.writes.runs told).touches.contents) ((does.writes.runs told).touches.contents) (inv.copied told)
          (c.in_ok-copy_text.ensures.copied told);
    }

pub returns-clause-copied : goal.returns-clause-copied
returns-clause-copied g c = λ told k d less.
    let long = ap length c.deref-text-items.ensures.value in
    c.loop-text.invariant.copied told k d (omega (arith, less, long, c.loop-text-test.false))
