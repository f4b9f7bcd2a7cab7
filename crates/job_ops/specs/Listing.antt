-- What PRINT says of a volume.
use Rattle.std.specs.Prelude.{◌≡◌, ◌⊎◌, ℕ, ◌+◌, false, List, [], ◌∷◌, length, map, Some, slice_get}
use Rattle.std.specs.List.{flat_map}
use Rattle.free_map.specs.declared.run.Run.{Run}
use Rattle.free_map.specs.Free.{count_of, index_of}
use Rattle.vol_label.specs.declared.serial.Serial.{Serial}
use Rattle.volume_model.specs.Pinned.{organization_in, last_track_in, last_record_in}
use Rattle.volume_model.specs.Unit.{Extent, DataSet, OnlineVolume, UnitModel, online, tracks_of, AreFreeRunsOf}
use Rattle.move_core.specs.declared.steps.Step.{Step}
use Rattle.job_lines.specs.declared.message.VolumeSummary.{VolumeSummary}
use Rattle.job_lines.specs.declared.message.SetSummary.{SetSummary}
use Rattle.job_lines.specs.declared.message.Message.{Message}
use Rattle.job_lines.specs.declared.message.Message.TheVariants as messages
use Rattle.dump_sets.specs.job_turns.declared.units.UnitUse.{UnitUse}
use Rattle.dump_sets.specs.job_turns.Refusal.{IsUnitOf, standing_of, Refuses, Lets}
use Rattle.dump_sets.specs.job_turns.Setting.{Setting}

-- a volume whose free tracks are these runs
abbrev pub summary_of : OnlineVolume → List Run → VolumeSummary
summary_of volume runs = record {
  serial = volume.serial;
  device = volume.device;
  usable = volume.usable;
  free = count_of runs;
  runs = length runs;
  index = index_of runs;
}

abbrev pub set_summary : DataSet → SetSummary
set_summary set = record {
  name = set.name;
  organization = organization_in set.fields;
  extents = length set.extents;
  tracks = length (tracks_of set.extents);
  last_track = last_track_in set.fields;
  last_record = last_record_in set.fields;
}

-- extents, numbered from a number on
abbrev pub extent_messages : ℕ → List Extent → List Message
extent_messages number [] = []
extent_messages number (extent ∷ extents) =
    messages.Extent (record { number = number; kind = extent.kind; first = extent.run.first; tracks = extent.run.len }) ∷ extent_messages (number + 1) extents

abbrev pub set_messages : DataSet → List Message
set_messages set = messages.Set (set_summary set) ∷ extent_messages 1 set.extents

-- a volume, and its data sets in the order of their names
abbrev pub listing : OnlineVolume → List Run → List Message
listing volume runs = messages.Volume (summary_of volume runs) ∷ flat_map set_messages volume.sets

abbrev pub IsListing : OnlineVolume → List Message → Type 0
IsListing volume said = (runs : List Run) × AreFreeRunsOf volume runs × (said ≡ listing volume runs)

-- ---- the statement

-- a unit is named, and not changed
abbrev pub listed : Serial → UnitUse
listed serial = record { serial = serial; changes = false }

-- PRINT VTOC: it is refused, or lists the volume of its unit. It has no steps.
abbrev pub Prints : Setting → Serial → List UnitModel → List Step → List Message → Type 0
Prints setting serial units steps said =
    (steps ≡ [])
    × (((message : Message) × Refuses setting.facts.names setting.facts.room (map standing_of units) (listed serial ∷ []) message × (said ≡ message ∷ []))
    ⊎ ((unit : ℕ) × (volume : OnlineVolume) × Lets setting.facts.names setting.facts.room (map standing_of units) (listed serial ∷ [])
    × IsUnitOf setting.facts.names serial unit × (slice_get units unit ≡ Some (online volume)) × IsListing volume said))
