use Rattle.std.proofs.Common.{◌≡◌, ◌++◌, map, take}
use Rattle.org_reloc.specs.Member.{number_of_place}
use Rattle.org_reloc.proofs.member.push_places.Given as goal

abbrev pub invariant-loop-entry : goal.invariant-loop-entry
invariant-loop-entry l = l.numbers.items ≡ l.fn.numbers.items ++ map (λ entry. number_of_place entry.place) (take l.entry-index l.entries)
