use Rattle.std.proofs.Common.{List, nat_eq, ap, ◌∙◌, map}
use Rattle.std.proofs.lemmas.List.{take_all}
use Rattle.std.proofs.lemmas.List.Filters.{dedup_is}
use Rattle.org_reloc.specs.declared.entry.Entry.{Entry}
use Rattle.org_reloc.specs.declared.directory.Page.{Page}
use Rattle.org_reloc.specs.Directory.{entries_of}
use Rattle.org_reloc.specs.Member.{number_of_place}
use Rattle.org_reloc.proofs.Members.{sorted_numbers}
use Rattle.org_reloc.proofs.member.places_named.Goals as goal

pub returns : goal.returns
returns c =
    sorted_numbers (entries_of c.args.pages.now) c.loop-page.numbers.items c.sort_unstable.new.self.items c.from_vec.result
    (c.loop-page.invariant ∙ ap (λ (l : List Page). map (λ (entry : Entry). number_of_place entry.place) (entries_of l)) (take_all c.loop-page.page-index c.args.pages.now c.loop-page-test.false))
    c.sort_unstable.ensures.permutation c.sort_unstable.ensures.sorted
    (c.from_vec.ensures ∙ dedup_is nat_eq c.sort_unstable.new.self.items c.dedup.new.self.items c.dedup.ensures.filtered)
