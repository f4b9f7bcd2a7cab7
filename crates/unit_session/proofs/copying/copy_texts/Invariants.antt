use Rattle.std.proofs.Common.{ℕ, ◌<◌, map, get_or}
use Rattle.unit_session.specs.declared.copies.TextMove.{TextMove}
use Rattle.unit_session.specs.Copies.{IsTextCopied, OnlyWrites, contents_of, is_among}
use Rattle.unit_session.proofs.copying.copy_texts.Given as goal

-- the first of them are copied
abbrev pub invariant-loop-text : goal.invariant-loop-text
invariant-loop-text g l = record {
  writes : OnlyWrites g.P.Pool (is_among l.copies.unit (map (λ move. move.to) l.copies.moves.items)) l.fn.journal l.journal;
  copied : g.P.Pool.tells → (i : ℕ) (d : TextMove) → i < l.text-index → IsTextCopied l.copies (contents_of g.P.Pool l.fn.journal) (contents_of g.P.Pool l.journal) (get_or l.copies.moves.items i d);
}
