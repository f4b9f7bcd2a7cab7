use Rattle.std.proofs.Common.{◌∙◌, refl}
use Rattle.dump_read.proofs.ReadAll.{left_less}
use Rattle.rows_dumps.proofs.Copying.{seen_of, none_copied, copied_on, may_end, text_copied}
use Rattle.rows_dumps.proofs.copied.copy_dump.Goals as goal

pub pieces-init : goal.pieces-init
pieces-init g c = record {
  copied = none_copied _ c.args.outs.items _ c.in_ok-reader.reader c.head.result c.in-Ok.writer.progress c.in-Ok.writer.outs.items c.head.ensures.value c.in_ok-reader.ensures.read c.in-Ok.ensures.begun;
  places = c.in-Ok.ensures.places;
  same = cc c.in_ok-reader.ensures.same;
}

pub pieces-smaller : goal.pieces-smaller
pieces-smaller g c =
    let read = c.in_ok-copy_piece.ensures.read in
    left_less (seen_of c.pieces.reel) (seen_of c.copy_piece.new.reel) c.pieces.reader c.copy_piece.new.reader read.0 (read.1 ∙ c.if-branch.true) read.2
    (c.pieces.invariant.copied.front, c.pieces.invariant.copied.reading)

pub pieces-preserved : goal.pieces-preserved
pieces-preserved g c = record {
  copied = copied_on _ c.args.outs.items _ c.copy_piece.new.reader c.copy_piece.new.writer.progress c.copy_piece.new.writer.outs.items c.in_ok-copy_piece.field-0 c.if-branch.true
      (c.in_ok-copy_piece.ensures.copied c.args.outs.items c.pieces.invariant.copied);
  places = c.in_ok-copy_piece.ensures.places ∙ c.pieces.invariant.places;
  same = cc (c.in_ok-copy_piece.ensures.same, c.pieces.invariant.same);
}

pub end-requires : goal.end-requires
end-requires g c =
    may_end _ c.args.outs.items _ c.copy_piece.new.reader c.copy_piece.new.writer.progress c.copy_piece.new.writer.outs.items c.copy_piece.new.reel.text c.in_ok-copy_piece.field-0 refl c.if-branch.false
    (c.in_ok-copy_piece.ensures.copied c.args.outs.items c.pieces.invariant.copied)

pub returns-clause-whole : goal.returns-clause-whole
returns-clause-whole g c =
    text_copied _ c.args.outs.items _ c.copy_piece.new.reader c.copy_piece.new.writer.progress c.copy_piece.new.writer.outs.items c.end.result.items _ c.copy_piece.new.reel.text
    c.in_ok-copy_piece.field-0 refl (c.in_ok-copy_piece.ensures.places ∙ c.pieces.invariant.places) c.end.ensures.whole c.if-branch.false
    (c.in_ok-copy_piece.ensures.copied c.args.outs.items c.pieces.invariant.copied)
