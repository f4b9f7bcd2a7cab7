use Rattle.std.proofs.Common.{◌∙◌, sym, subst, arith}
use Rattle.std.proofs.lemmas.Result.{err_from_is_err_and}
use Rattle.dump_fmt.specs.Front.{Front}
use Rattle.dump_fmt.specs.Text.{IsDumpText}
use Rattle.dump_read.specs.Reader.{ReaderView}
use Rattle.dump_read.specs.Reading.{HeldSuch}
use Rattle.dump_read.proofs.ReadAll.{front_stays, left_less, some_dump, some_fault}
use Rattle.dump_read.proofs.reader.DumpReader.check.Goals as goal

pub pieces-init : goal.pieces-init
pieces-init g c = record { read = (_, c.in_ok-reader.ensures.read); same = c.in_ok-reader.ensures.same; later = c.in_ok-reader.ensures.later }

pub returns-in_err-next-clause-refused : goal.returns-in_err-next-clause-refused
returns-in_err-next-clause-refused g c =
    let p = err_from_is_err_and c.from_residual-in_err-next.result c.from_residual-in_err-next.ensures.1 in
    rw (p.1, p.2)
    (some_fault (g.R.Tape.seen c.pieces.reel) c.pieces.reader (g.R.Tape.seen c.next.new.reel).held c.in_err-next.field-0.0 c.in_err-next.ensures.refused c.pieces.invariant.read)

pub returns-in_err-next-clause-same : goal.returns-in_err-next-clause-same
returns-in_err-next-clause-same g c = c.in_err-next.ensures.same ∙ c.pieces.invariant.same

pub returns-in_err-next-clause-later : goal.returns-in_err-next-clause-later
returns-in_err-next-clause-later g c = omega (arith, c.pieces.invariant.later, c.in_err-next.ensures.later)

pub returns-in_err-next-clause-cause : goal.returns-in_err-next-clause-cause
returns-in_err-next-clause-cause g c =
    let p = err_from_is_err_and c.from_residual-in_err-next.result c.from_residual-in_err-next.ensures.1 in
    rw (p.1, p.2) (λ same less. omega (arith, c.in_err-next.ensures.cause same less, c.pieces.invariant.later))

pub pieces-smaller : goal.pieces-smaller
pieces-smaller g c =
    left_less (g.R.Tape.seen c.pieces.reel) (g.R.Tape.seen c.next.new.reel) c.pieces.reader c.next.new.self c.in_ok-next.field-0 (sym c.if-is_some.ensures) c.in_ok-next.ensures.read
    c.pieces.invariant.read

pub pieces-preserved : goal.pieces-preserved
pieces-preserved g c = record {
  read = front_stays (g.R.Tape.seen c.pieces.reel) (g.R.Tape.seen c.next.new.reel) c.pieces.reader c.next.new.self c.in_ok-next.field-0 (sym c.if-is_some.ensures) c.in_ok-next.ensures.read
      c.pieces.invariant.read;
  same = c.in_ok-next.ensures.same ∙ c.pieces.invariant.same;
  later = omega (arith, c.pieces.invariant.later, c.in_ok-next.ensures.later);
}

pub returns-clause-whole : goal.returns-clause-whole
returns-clause-whole g c =
    subst (λ (r : ReaderView). HeldSuch (g.R.Tape.seen c.next.new.reel).held (λ whole. (front : Front) × IsDumpText whole r.head front)) (sym c.reader.view_is)
    (some_dump (g.R.Tape.seen c.pieces.reel) (g.R.Tape.seen c.next.new.reel) c.pieces.reader c.next.new.self c.in_ok-next.field-0 (sym c.if-is_some.ensures)
    c.in_ok-next.ensures.read c.pieces.invariant.read)

pub returns-clause-same : goal.returns-clause-same
returns-clause-same g c = c.in_ok-next.ensures.same ∙ c.pieces.invariant.same

pub returns-clause-later : goal.returns-clause-later
returns-clause-later g c = omega (arith, c.pieces.invariant.later, c.in_ok-next.ensures.later)
