use Rattle.std.proofs.Common.{◌≡◌, vec_len, All}
use Rattle.dasd_pool.specs.Kept.{IsSpare}
use Rattle.dasd_pool.proofs.kept.spare_buffers.Given as goal

abbrev pub invariant-loop-made : goal.invariant-loop-made
invariant-loop-made l = (vec_len l.spare ≡ l.made) × All (IsSpare l.width) l.spare.items
