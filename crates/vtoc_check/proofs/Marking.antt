-- Format 3s, as they are marked one behind the other.
use Rattle.std.specs.Prelude.{◌≡◌, ◌⊎◌, ℕ, zero, suc, ◌+◌, ◌<◌, ◌≤◌, Bool, true, false, List, [], ◌∷◌, length, Option, Some, Contains}
use Rattle.volume_model.specs.declared.place.Placed.{Placed}
use Rattle.volume_model.specs.Directory.{next_format_3}
use Rattle.vtoc_check.specs.Reach.{record_in, is_marked, HasMark, AreClosed, chain_behind}

-- so many pointers further, from these bytes on
abbrev pub IsStep : ℕ → List Placed → ℕ → List ℕ → Placed → Type 0
IsStep heads records zero bytes placed = next_format_3 heads records bytes ≡ Some placed
IsStep heads records (suc steps) bytes placed = (middle : Placed) × (next_format_3 heads records bytes ≡ Some middle) × IsStep heads records steps middle.bytes placed

abbrev pub StandsThere : List Placed → Option ℕ → Placed → Type 0
StandsThere records at placed = (k : ℕ) × (at ≡ Some k) × (record_in records k ≡ placed)

abbrev pub unmarked : List Bool → ℕ
unmarked [] = 0
unmarked (true ∷ marks) = unmarked marks
unmarked (false ∷ marks) = unmarked marks + 1

-- after so many steps, with the next record in hand
pub record AreBeingMarked (heads : ℕ) (records : List Placed) (bytes : List ℕ) (before : List Bool) (steps : ℕ) (after : List Bool) (at : Option ℕ) : Type 0 where
  pub long : length after ≡ length records
  pub kept : (k : ℕ) → is_marked before k ≡ true → is_marked after k ≡ true
  pub closed : AreClosed heads records before → (k : ℕ) → k < length records → is_marked after k ≡ true
      → (placed : Placed) → next_format_3 heads records (record_in records k).bytes ≡ Some placed → HasMark records after placed ⊎ StandsThere records at placed
  pub leads : (placed : Placed) → next_format_3 heads records bytes ≡ Some placed → HasMark records after placed ⊎ StandsThere records at placed
  pub sound : (k : ℕ) → is_marked after k ≡ true → (is_marked before k ≡ true) ⊎ Contains (chain_behind heads records bytes) (record_in records k)
  pub stands : (k : ℕ) → at ≡ Some k → (k < length records) × IsStep heads records steps bytes (record_in records k)
  pub few : unmarked after + steps ≤ length records
