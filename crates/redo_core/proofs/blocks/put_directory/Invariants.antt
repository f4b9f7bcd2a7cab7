use Rattle.std.proofs.Common.{◌≡◌, ◌+◌, ◌*◌, ◌-◌, ◌++◌, length, take}
use Rattle.std.specs.Prelude.{All, replicate}
use Rattle.std.specs.List.{flat_map}
use Rattle.byteorder.specs.Endian.{big_bytes}
use Rattle.redo_core.specs.Format.{wide, target_text}
use Rattle.redo_core.specs.Phases.{targets}
use Rattle.redo_core.proofs.Directory.{Fits}
use Rattle.redo_core.proofs.blocks.put_directory.Given as goal

abbrev pub invariant-loop-entry : goal.invariant-loop-entry
invariant-loop-entry l = record {
  place : l.place ≡ 4 + 8 * l.entry-index;
  text : l.buffer ≡ (big_bytes 4 (length l.entries) ++ flat_map target_text (targets (take l.entry-index l.entries))) ++ replicate (wide - l.place) 0;
  fits : All Fits (targets (take l.entry-index l.entries));
}
