use Rattle.std.proofs.Common.{ℕ, ◌<◌, slice_index}
use Rattle.vtoc_core.specs.Named.{IsByteOf}
use Rattle.vtoc_core.proofs.names.is_named.Given as goal

-- the bytes so far
abbrev pub invariant-loop-place : goal.invariant-loop-place
invariant-loop-place l = (k : ℕ) → k < l.place → IsByteOf l.name k (slice_index l.bytes k)
