use Rattle.std.proofs.Common.{◌≡◌, length, take}
use Rattle.dump_sets.specs.Telling.{taken_of}
use Rattle.dump_sets.proofs.telling.taken.Given as goal

-- the names so far that are dumped were taken
abbrev pub invariant-loop-name : goal.invariant-loop-name
invariant-loop-name l = l.taken.items ≡ taken_of (take (length l.yielded) l.names) (take (length l.yielded) l.told)
