use Rattle.std.proofs.Common.{◌≡◌, ◌++◌, ◌∷◌, List, take}
use Rattle.std.specs.List.{flat_map}
use Rattle.ckd_image.specs.Device.{heads_of}
use Rattle.free_map.specs.Free.{count_of, index_of}
use Rattle.std.specs.Prelude.{length}
use Rattle.volume_model.specs.Unit.{DataSet}
use Rattle.dump_sets.specs.job_turns.job_copies.unit_change.Described.{DescribesSets}
use Rattle.job_lines.specs.declared.message.Message.{Message}
use Rattle.job_lines.specs.declared.message.Message.TheVariants as messages
use Rattle.job_ops.specs.Listing.{set_messages}
use Rattle.job_ops.proofs.listing.push_listing.Given as goal

-- the message of the volume, and those of the data sets so far
abbrev pub invariant-loop-row : goal.invariant-loop-row
invariant-loop-row l =
    ((said : List Message) × (l.messages.items ≡ l.fn.messages.items ++ said))
    × ((sets : List DataSet) → DescribesSets (heads_of l.volume.device) (take l.row-index l.row-items) sets
    → l.messages.items ≡ l.fn.messages.items ++ (messages.Volume (record {
      serial = l.volume.serial;
      device = l.volume.device;
      usable = l.volume.usable;
      free = count_of l.volume.free.runs;
      runs = length l.volume.free.runs;
      index = index_of l.volume.free.runs;
    }) ∷ flat_map set_messages sets))
