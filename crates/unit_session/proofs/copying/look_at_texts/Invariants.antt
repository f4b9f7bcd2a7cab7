use Rattle.std.proofs.Common.{ℕ, ◌<◌, get_or}
use Rattle.unit_load.specs.Reads.{OnlyReads}
use Rattle.unit_session.specs.declared.copies.TextMove.{TextMove}
use Rattle.unit_session.proofs.CopyingTexts.{HasText}
use Rattle.unit_session.proofs.copying.look_at_texts.Given as goal

-- the first of them have texts
abbrev pub invariant-loop-text : goal.invariant-loop-text
invariant-loop-text g l = record {
  reads : OnlyReads g.P.Pool l.fn.journal l.journal;
  texts : g.P.Pool.tells → (i : ℕ) (d : TextMove) → i < l.text-index → HasText (g.P.Pool.disk l.fn.journal.pool).state.contents l.copies (get_or l.copies.moves.items i d);
}
