use Rattle.std.proofs.Common.{◌≡◌, ◌&&◌, drop, find, take}
use Rattle.volume_model.specs.Check.{same_bytes}
use Rattle.layout_found.specs.Sets.{is_one}
use Rattle.layout_found.proofs.sets.one_named.Given as goal

abbrev pub invariant-loop-placed : goal.invariant-loop-placed
invariant-loop-placed l =
    find (λ placed. is_one placed && same_bytes (take 44 placed.bytes) l.name) (drop l.placed-index l.records) ≡ find (λ placed. is_one placed && same_bytes (take 44 placed.bytes) l.name) l.records
