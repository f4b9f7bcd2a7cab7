use Rattle.std.proofs.Common.{◌∙◌}
use Rattle.std.proofs.lemmas.Result.{err_from_is_err_and}
use Rattle.dump_read.proofs.Passing.{piece_taken}
use Rattle.dump_read.proofs.reader.DumpReader.next.Goals as goal

pub returns-in_err-piece-clause-cause : goal.returns-in_err-piece-clause-cause
returns-in_err-piece-clause-cause g c =
    let p = err_from_is_err_and c.from_residual-in_err-piece.result c.from_residual-in_err-piece.ensures.1 in
    rw (p.1, p.2) (λ same. absurd (c.in_err-piece.ensures.no_reel same))

pub returns-clause-taken : goal.returns-clause-taken
returns-clause-taken g c = λ front is.
    let old = g.R.Tape.seen c.args.reel.now in
    let new = g.R.Tape.seen c.mark.new.reel in
    let read = rw c.in-Some.is at c.in_ok-piece.ensures.read in
    piece_taken old new c.args.self.now c.piece.new.self front c.in-Some.piece (c.in_ok-piece.ensures.head ∙ c.in_ok-mark.ensures.head) c.in_ok-mark.ensures.same is
    (read new front (c.in_ok-mark.ensures.marked front is))
