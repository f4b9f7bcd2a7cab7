use Rattle.std.proofs.Common.{ℕ, ◌≡◌, ◌<◌, ◌+◌, ◌*◌, length}
use Rattle.unit_load.specs.Hand.{with_hand}
use Rattle.unit_load.specs.Reads.{OnlyReads}
use Rattle.unit_load.proofs.Slotted.{nth_slot}
use Rattle.unit_load.proofs.slots.read_run.Given as goal

-- the slots so far are those of the first tracks
abbrev pub invariant-loop-place : goal.invariant-loop-place
invariant-loop-place g l =
    let size = (g.P.Pool.shape l.fn.journal.pool).block_size l.unit in
    record {
      reads : OnlyReads g.P.Pool l.fn.journal l.journal;
      long : length l.slots.items ≡ l.place * size;
      taken : (k : ℕ) → k < l.place → l.run.first + k ≡ l.taken.track → nth_slot size l.slots.items k ≡ l.taken.slot.now;
      slots : g.P.Pool.tells → l.taken.slot.now ≡ with_hand l.hand ((g.P.Pool.disk l.fn.journal.pool).state.contents l.unit) l.taken.track
          → (k : ℕ) → k < l.place → nth_slot size l.slots.items k ≡ with_hand l.hand ((g.P.Pool.disk l.fn.journal.pool).state.contents l.unit) (l.run.first + k);
    }
