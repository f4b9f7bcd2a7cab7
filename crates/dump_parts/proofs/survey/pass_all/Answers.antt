use Rattle.std.proofs.Common.{◌∙◌, sym, arith}
use Rattle.std.proofs.lemmas.Result.{err_from_is_err_and}
use Rattle.dump_read.proofs.ReadAll.{front_stays, left_less, some_fault}
use Rattle.dump_parts.proofs.Ended.{dump_ended}
use Rattle.dump_parts.proofs.survey.pass_all.Goals as goal

pub returns-in_err-next-clause-refused : goal.returns-in_err-next-clause-refused
returns-in_err-next-clause-refused g c =
    let p = err_from_is_err_and c.from_residual.result c.from_residual.ensures.1 in
    rw (p.1, p.2)
    (some_fault (g.R.Tape.seen c.pieces.reel) c.pieces.reader (g.R.Tape.seen c.next.new.reel).held c.in_err-next.field-0.0 c.in_err-next.ensures.refused c.pieces.invariant.read)

pub returns-in_err-next-clause-cause : goal.returns-in_err-next-clause-cause
returns-in_err-next-clause-cause g c =
    let p = err_from_is_err_and c.from_residual.result c.from_residual.ensures.1 in
    rw (p.1, p.2) (λ same less. omega (arith, c.in_err-next.ensures.cause same less, c.pieces.invariant.later))

pub pieces-smaller : goal.pieces-smaller
pieces-smaller g c =
    left_less (g.R.Tape.seen c.pieces.reel) (g.R.Tape.seen c.next.new.reel) c.pieces.reader c.next.new.self c.in_ok-next.field-0 (sym c.if-is_some.ensures) c.in_ok-next.ensures.read
    c.pieces.invariant.read

pub pieces-preserved : goal.pieces-preserved
pieces-preserved g c = record {
  read = front_stays (g.R.Tape.seen c.pieces.reel) (g.R.Tape.seen c.next.new.reel) c.pieces.reader c.next.new.self c.in_ok-next.field-0 (sym c.if-is_some.ensures) c.in_ok-next.ensures.read
      c.pieces.invariant.read;
  head = c.in_ok-next.ensures.head ∙ c.pieces.invariant.head;
  same = c.in_ok-next.ensures.same ∙ c.pieces.invariant.same;
  later = omega (arith, c.pieces.invariant.later, c.in_ok-next.ensures.later);
}

pub returns-clause-whole : goal.returns-clause-whole
returns-clause-whole g c =
    dump_ended (g.R.Tape.seen c.pieces.reel) (g.R.Tape.seen c.next.new.reel) c.pieces.reader c.next.new.self c.in_ok-next.field-0 (sym c.if-is_some.ensures) c.in_ok-next.ensures.read
    c.pieces.invariant.read

pub returns-clause-later : goal.returns-clause-later
returns-clause-later g c = omega (arith, c.pieces.invariant.later, c.in_ok-next.ensures.later)
