-- Two blocks that are written in order.
use Rattle.std.specs.Prelude.{◌≡◌, ◌⊎◌, ℕ, List, false, if◌then◌else◌}
use Rattle.dasd_pool.specs.Disk.{Image, State, Spares, is_at}

-- an image with other bytes at one block
abbrev pub with_block : ℕ → ℕ → List ℕ → Image → Image
with_block unit block bytes image u b = if is_at unit block u b then bytes else image u b

-- What a stop may leave: all but the first block is as it was, where that was synced; or the first block has its bytes, and
-- all but the second is else as it was.
abbrev pub InOrder : State → ℕ → ℕ → List ℕ → ℕ → Image → Type 0
InOrder old unit first bytes second image =
    Spares (is_at unit first) old image
    ⊎ ((u b : ℕ) → is_at unit second u b ≡ false → image u b ≡ with_block unit first bytes old.contents u b)
