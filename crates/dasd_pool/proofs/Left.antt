-- What a crash makes is one of the images that the disk allows.
use Rattle.std.proofs.Common.{◌≡◌, ℕ, zero, suc, ◌<◌, ◌≤◌, [], length, take, get_or, ap, ◌∙◌, arith}
use Rattle.std.specs.Prelude.{min}
use Rattle.dasd_pool.specs.declared.calls.Tear.{Tear}
use Rattle.dasd_pool.specs.Disk.{Image, State, Disk}
use Rattle.dasd_pool.specs.Calls.{block_at, size_in, texts_of, first_state, disk_after}
use Rattle.dasd_pool.specs.Memory.{MemoryView, marked_state, disk_now, disk_by, state_of, IsLeftOf}
use Rattle.dasd_pool.specs.Tears.{IsTornFrom, torn_image}
use Rattle.dasd_pool.proofs.Tearing.{torn_left}

allowed_by : (keep : ℕ) (marked kept : Disk) (since : ℕ) (image : Image) → 0 < keep → kept.left_since since image → (disk_by keep marked kept).left_since since image
allowed_by zero marked kept since image some left = absurd (omega (arith, some))
allowed_by (suc n) marked kept since image some left = left

pub left_of : (tear : Tear) (pool left : MemoryView) (calls : ℕ) → IsTornFrom tear pool.units (take calls pool.calls) left.units → state_of left ≡ first_state left.units
    → 0 < pool.keep → (since : ℕ) → since ≤ min calls (length pool.calls) → IsLeftOf pool since left
left_of tear pool left calls torn state some since le = record {
  image = torn_image tear pool.units (take calls pool.calls);
  allowed =
      allowed_by pool.keep (disk_now (marked_state pool.units pool.texts pool.marks)) (disk_after (first_state pool.units) pool.calls) since (torn_image tear pool.units (take calls pool.calls)) some
      (torn_left tear pool.units pool.calls calls since le);
  held = λ u b less within.
      ap (λ (s : State). s.contents u b) state ∙ (λ i. block_at (size_in (get_or (torn.heads i) u [])) (get_or (texts_of left.units) u []) b) ∙ torn.blocks u b less within;
}
