use Rattle.std.proofs.Common.{◌≡◌, ◌≢◌, ℕ, ◌-◌, ◌<◌, ◌≤◌, get_or}
use Rattle.vtoc_core.proofs.names.name_len.Given as goal

abbrev pub invariant-loop-place : goal.invariant-loop-place
invariant-loop-place l =
    (l.len ≤ l.place) × ((k : ℕ) → l.len ≤ k → k < l.place → get_or l.name k 0 ≡ 0x40) × (0 < l.len → get_or l.name (l.len - 1) 0 ≢ 0x40)
