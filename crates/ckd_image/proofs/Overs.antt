-- Bytes that are put over others.
use Rattle.std.proofs.Common.{◌≡◌, ℕ, ◌+◌, ◌≤◌, List, ◌++◌, length, take, drop, arith, length-append, length-drop}
use Rattle.std.proofs.lemmas.List.{length-take-le}
use Rattle.ckd_image.specs.Body.{over}

pub over_length : (start : ℕ) (piece bytes : List ℕ) → start + length piece ≤ length bytes → length (over start piece bytes) ≡ length bytes
over_length start piece bytes within =
    let behind = start + length piece in
    omega (
      arith,
      within,
      length-append (take start bytes) (piece ++ drop behind bytes),
      length-append piece (drop behind bytes),
      length-take-le start bytes (omega (arith, within)),
      length-drop behind bytes,
    )
