use Rattle.std.proofs.Common.{ℕ, ◌<◌, get_or}
use Rattle.ckd_image.specs.Device.{heads_of}
use Rattle.unit_load.specs.Reads.{OnlyReads}
use Rattle.unit_session.specs.Texts.{HasTextOn}
use Rattle.unit_session.proofs.texts.have_texts.Given as goal

-- the first of them have texts
abbrev pub invariant-loop-track : goal.invariant-loop-track
invariant-loop-track g l = record {
  reads : OnlyReads g.P.Pool l.fn.journal l.journal;
  texts : g.P.Pool.tells → (i d : ℕ) → i < l.track-index → HasTextOn (heads_of l.set.device) ((g.P.Pool.disk l.fn.journal.pool).state.contents l.unit) (get_or l.set.tracks.items i d);
}
