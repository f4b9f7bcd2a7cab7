-- What a pool in memory holds of a block has the size of its unit's blocks.
use Rattle.std.proofs.Common.{◌≡◌, ℕ, ◌+◌, ◌*◌, ◌<◌, ◌≤◌, [], length, drop, sym, ap, ◌∙◌, arith, length-take-le, length-drop}
use Rattle.std.specs.Prelude.{slice_index_or}
use Rattle.dasd_pool.specs.Calls.{size_of, texts_of, shape_of}
use Rattle.dasd_pool.specs.Memory.{MemoryView, Agree, state_of}
use Rattle.dasd_pool.proofs.Bytes.{block_fits}

pub block_long : (pool : MemoryView) (width : ℕ) → Agree pool width → (u b : ℕ) → b < (shape_of pool.units).blocks u → length ((state_of pool).contents u b) ≡ size_of pool.units u
block_long pool width agree u b less =
    let size = size_of pool.units u in
    let text = slice_index_or pool.texts u [] in
    let fits : b * size + size ≤ length (slice_index_or (texts_of pool.units) u []) = block_fits b size (length (slice_index_or (texts_of pool.units) u [])) _ less in
    ap length (sym (agree.current u b))
    ∙ length-take-le size (drop (b * size) text) (omega (arith, fits, agree.lengths u, length-drop (b * size) text))
