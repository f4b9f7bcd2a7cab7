use Rattle.std.proofs.Common.{ℕ, ◌<◌, get_or}
use Rattle.unit_session.specs.Copies.{IsEmptied, OnlyWrites, contents_of, is_among}
use Rattle.unit_session.proofs.copying.empty_tracks.Given as goal

-- the first of them are empty
abbrev pub invariant-loop-track : goal.invariant-loop-track
invariant-loop-track g l = record {
  writes : OnlyWrites g.P.Pool (is_among l.copies.unit l.copies.empty.items) l.fn.journal l.journal;
  emptied : g.P.Pool.tells → (i d : ℕ) → i < l.track-index → IsEmptied l.copies (contents_of g.P.Pool l.journal) (get_or l.copies.empty.items i d);
}
