use Rattle.std.proofs.Common.{refl, Some}
use Rattle.rows_dumps.proofs.Copying.{piece_copied, all_copied}
use Rattle.rows_dumps.proofs.copied.copy_piece.Goals as goal

pub returns-in_default-clause-copied : goal.returns-in_default-clause-copied
returns-in_default-clause-copied g c = λ before copied. all_copied _ before _ _ _ c.next.new.self _ _ c.in_ok-piece.ensures.head (rw c.in_default.is at c.in_ok-piece.ensures.read) copied

pub returns-clause-read : goal.returns-clause-read
returns-clause-read g c = (Some c.in-Some.piece, refl, rw c.in-Some.is at c.in_ok-piece.ensures.read)

pub returns-clause-copied : goal.returns-clause-copied
returns-clause-copied g c = λ before copied.
    piece_copied _ before _ _ _ _ _ _ _ _ c.in-Some.piece c.in_ok-piece.ensures.head (rw c.in-Some.is at c.in_ok-piece.ensures.read) c.in_ok-put.ensures.put copied
