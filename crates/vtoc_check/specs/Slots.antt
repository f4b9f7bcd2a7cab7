-- The slots of a VTOC's tracks, one after the other.
use Rattle.std.specs.Prelude.{◌≡◌, ℕ, ◌+◌, ◌-◌, ◌*◌, ◌<◌, List, take, drop}
use Rattle.free_map.specs.declared.run.Run.{Run}
use Rattle.volume_model.specs.Sound.{Slots}

-- the slot of a track of a run, among slots of so many bytes each
abbrev pub slot_in : Run → ℕ → List ℕ → ℕ → List ℕ
slot_in run size bytes track = take size (drop ((track - run.first) * size) bytes)

-- the bytes are the slots of the run's tracks
abbrev pub AreSlotsOf : Run → ℕ → List ℕ → Slots → Type 0
AreSlotsOf run size bytes slots = (k : ℕ) → k < run.len → slots (run.first + k) ≡ slot_in run size bytes (run.first + k)
