-- The fields of a format 1 that say how a data set is organized and managed.
use Rattle.std.proofs.Common.{◌≡◌, ◌≢◌, ◌⊎◌, ◌↔◌, ℕ, ◌+◌, ◌*◌, List, length, get_or, sym, subst, arith}
use Rattle.std.specs.Prelude.{bit_and}
use Rattle.volume_model.specs.Dscbs.{number_at}
use Rattle.volume_model.specs.Pinned.{organization_in, IsManaged}
use Rattle.volume_model.specs.Reads.{fields_of_1}
use Rattle.volume_model.proofs.Fields.{field_ahead, field_behind}

module _ (f1 : List ℕ) (long : length f1 ≡ 140) where
  pub organization_kept : organization_in (fields_of_1 f1) ≡ number_at f1 82
  organization_kept = λ i. 256 * field_behind f1 long 22 (omega arith) i + field_behind f1 long 23 (omega arith) i

  pub volume_kept : number_at (fields_of_1 f1) 51 ≡ number_at f1 51
  volume_kept = λ i. 256 * field_ahead f1 long 51 (omega arith) i + field_ahead f1 long 52 (omega arith) i

  abbrev by_flags : ℕ → ℕ → Type 0
  by_flags storage indicators = (bit_and storage 0x0E ≢ 0) ⊎ (bit_and indicators 0x08 ≢ 0)

  pub managed_as : {T : Type 0} → (T ↔ IsManaged f1) → (T ↔ IsManaged (fields_of_1 f1))
  managed_as {T} h =
      subst (λ (storage : ℕ). T ↔ by_flags storage (get_or (fields_of_1 f1) 61 0)) (sym (field_behind f1 long 18 (omega arith)))
      (subst (λ (indicators : ℕ). T ↔ by_flags (get_or f1 78 0) indicators) (sym (field_behind f1 long 1 (omega arith))) h)
