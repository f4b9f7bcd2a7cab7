-- DSCBs of which a change of the VTOC writes some fields.
use Rattle.std.specs.Prelude.{◌≡◌, ◌⊎◌, ℕ, ◌+◌, ◌*◌, ◌<◌, ◌≤◌, List, length, slice_index, slice_index_or}
use Rattle.dscb_rec.specs.declared.field.Entry5.{Entry5}
use Rattle.dscb_rec.specs.Field.{entry_text, entry_offset}
use Rattle.free_map.specs.declared.run.Run.{Run}

-- ---- format 5

-- an entry that states nothing
abbrev pub no_entry : Entry5
no_entry = record { first = 0; cylinders = 0; tracks = 0 }

-- the tracks that an entry states
abbrev pub run_of_entry : ℕ → Entry5 → Run
run_of_entry heads entry = record { first = entry.first; len = entry.cylinders * heads + entry.tracks }

-- the identifier, the format, and the pointer with what is behind it
abbrev pub IsBesideEntries : ℕ → Type 0
IsBesideEntries k = (k < 4) ⊎ ((k ≡ 44) ⊎ (135 ≤ k))

-- a format 5 has these entries, and empty ones behind them, and nothing else changes
pub record AreEntriesPut (entries : List Entry5) (old new : List ℕ) : Type 0 where
  pub long : length new ≡ length old
  pub each : (place byte : ℕ) → place < 26 → byte < 5 → slice_index new (entry_offset place + byte) ≡ slice_index (entry_text (slice_index_or entries place no_entry)) byte
  pub kept : (k : ℕ) → IsBesideEntries k → slice_index new k ≡ slice_index old k
