use Rattle.std.proofs.Common.{◌≡◌, map, take, get_or}
use Rattle.org_reloc.specs.Taken.{origin}
use Rattle.org_reloc.proofs.moved.places_at.Given as goal

abbrev pub invariant-loop-start : goal.invariant-loop-start
invariant-loop-start l = l.news ≡ map (λ start. get_or l.places start origin) (take l.start-index l.starts)
