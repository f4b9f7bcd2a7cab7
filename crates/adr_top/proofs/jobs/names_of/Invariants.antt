use Rattle.std.proofs.Common.{◌≡◌, take}
use Rattle.adr_top.specs.Asked.{serials_of}
use Rattle.adr_top.proofs.jobs.names_of.Given as goal

abbrev pub invariant-loop-volume : goal.invariant-loop-volume
invariant-loop-volume l = l.serials.items ≡ serials_of (take l.volume-index l.volume-items)
