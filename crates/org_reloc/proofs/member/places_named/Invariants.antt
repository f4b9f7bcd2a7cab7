use Rattle.std.proofs.Common.{◌≡◌, map, take}
use Rattle.org_reloc.specs.Directory.{entries_of}
use Rattle.org_reloc.specs.Member.{number_of_place}
use Rattle.org_reloc.proofs.member.places_named.Given as goal

abbrev pub invariant-loop-page : goal.invariant-loop-page
invariant-loop-page l = l.numbers.items ≡ map (λ entry. number_of_place entry.place) (entries_of (take l.page-index l.pages))
