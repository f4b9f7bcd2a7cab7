-- The fields of a format 1 that say how much of its data set is used.
use Rattle.std.proofs.Common.{◌≡◌, ℕ, ◌+◌, ◌*◌, List, length, arith}
use Rattle.std.specs.Prelude.{◌==◌, ◌&&◌, if◌then◌else◌}
use Rattle.volume_model.specs.Dscbs.{number_at}
use Rattle.volume_model.specs.Pinned.{used_tracks}
use Rattle.volume_model.specs.Reads.{fields_of_1}
use Rattle.volume_model.proofs.Fields.{field_behind}

module _ (f1 : List ℕ) (long : length f1 ≡ 140) where
  last_kept : number_at (fields_of_1 f1) 98 ≡ number_at f1 98
  last_kept = λ i. 256 * field_behind f1 long 38 (omega arith) i + field_behind f1 long 39 (omega arith) i

  pub used_kept : used_tracks (fields_of_1 f1) ≡ used_tracks f1
  used_kept =
      let used : ℕ → ℕ → ℕ = λ track record_number. if (track == 0) && (record_number == 0) then 1 else track + 1 in
      λ i. used (last_kept i) (field_behind f1 long 40 (omega arith) i)
