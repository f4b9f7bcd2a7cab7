use Rattle.std.proofs.Common.{subst, List, ◌∙◌, ap, ◌++◌, ◌∷◌, [], refl, sym, All, inr}
use Rattle.std.proofs.lemmas.Result.{err_from_is_err_and}
use Rattle.org_reloc.specs.declared.block.Block.{Block}
use Rattle.org_reloc.specs.declared.directory.Page.{Page}
use Rattle.org_reloc.specs.declared.fault.Why.TheVariants as whys
use Rattle.org_reloc.specs.Content.{records_of, Hold}
use Rattle.org_reloc.specs.Directory.{entries_of}
use Rattle.org_reloc.specs.DirectoryReading.{IsDirectoryRead, IsDirectoryRefusal}
use Rattle.org_reloc.specs.Member.{AreNumbers, NamesOne, place_of_number, AreMembersPut}
use Rattle.org_reloc.specs.MemberRefusal.{IsMembersRefusal}
use Rattle.org_reloc.proofs.Directories.{not_so}
use Rattle.org_reloc.proofs.Takings.{lost_entry, no_directory_end, directory_refused, members_refused, taken, placeable}
use Rattle.org_reloc.proofs.partitioned.take.Goals as goal

pub returns-in_err-pages-clause-refused : goal.returns-in_err-pages-clause-refused
returns-in_err-pages-clause-refused c =
    let run = c.in_ok-run.run' in
    let p = err_from_is_err_and c.from_residual-in_err-pages.result c.from_residual-in_err-pages.ensures.1 in
    let refused = subst (λ (l : List Block). IsDirectoryRefusal l c.in_err-pages.field-0.0) c.as_slice.ensures c.in_err-pages.ensures.refused in
    rw (p.1, p.2) (directory_refused c.args.tracks.now run.blocks run.ended c.in_err-pages.field-0.0 c.in_ok-run.ensures refused)

pub returns-then-not-all_named-clause-refused : goal.returns-then-not-all_named-clause-refused
returns-then-not-all_named-clause-refused c =
    let run = c.in_ok-run.run' in
    let pages = c.in_ok-pages.pages in
    let read = subst (λ (l : List Block). IsDirectoryRead l pages) c.as_slice.ensures c.in_ok-pages.ensures.read in
    let numbers = subst (λ (l : List Page). AreNumbers (entries_of l) c.in_ok-numbers.numbers) c.as_slice-2.ensures c.in_ok-numbers.ensures in (
      whys.Directory,
      c.number.ensures,
      inr (lost_entry c.args.tracks.now run.blocks run.ended pages c.in_ok-numbers.numbers c.in_ok-run.ensures read numbers
          (λ named. not_so c.if-not-all_named.ensures (subst (All (λ number. NamesOne c.args.tracks.now (place_of_number number))) (sym c.as_slice-3.ensures) named))),
    )

pub returns-then-not-run-clause-refused : goal.returns-then-not-run-clause-refused
returns-then-not-run-clause-refused c =
    let run = c.in_ok-run.run' in
    let pages = c.in_ok-pages.pages in
    let read = subst (λ (l : List Block). IsDirectoryRead l pages) c.as_slice.ensures c.in_ok-pages.ensures.read in
    let numbers = subst (λ (l : List Page). AreNumbers (entries_of l) c.in_ok-numbers.numbers) c.as_slice-2.ensures c.in_ok-numbers.ensures in
    let named = subst (All (λ number. NamesOne c.args.tracks.now (place_of_number number))) c.as_slice-3.ensures (c.if-not-all_named.ensures.0 refl) in
    let held = subst (Hold (records_of c.args.tracks.now) run.blocks) c.if-not-run.true c.in_ok-run.ensures in
    (whys.NoEnd, c.number-then-not-run.ensures, no_directory_end c.args.tracks.now run.blocks pages c.in_ok-numbers.numbers held read numbers named)

pub returns-in_err-starts-clause-refused : goal.returns-in_err-starts-clause-refused
returns-in_err-starts-clause-refused c =
    let run = c.in_ok-run.run' in
    let pages = c.in_ok-pages.pages in
    let read = subst (λ (l : List Block). IsDirectoryRead l pages) c.as_slice.ensures c.in_ok-pages.ensures.read in
    let numbers = subst (λ (l : List Page). AreNumbers (entries_of l) c.in_ok-numbers.numbers) c.as_slice-2.ensures c.in_ok-numbers.ensures in
    let named = subst (All (λ number. NamesOne c.args.tracks.now (place_of_number number))) c.as_slice-3.ensures (c.if-not-all_named.ensures.0 refl) in
    let p = err_from_is_err_and c.from_residual-in_err-starts.result c.from_residual-in_err-starts.ensures.1 in
    let refused = subst (λ l. IsMembersRefusal c.args.tracks.now l c.in_err-starts.field-0.0) c.as_slice-4.ensures c.in_err-starts.ensures.refused in
    rw (p.1, p.2) (members_refused c.args.tracks.now run.blocks run.ended pages c.in_ok-numbers.numbers c.in_err-starts.field-0.0 c.in_ok-run.ensures read numbers named refused)

pub returns-clause-taken : goal.returns-clause-taken
returns-clause-taken c =
    let run = c.in_ok-run.run' in
    let pages = c.in_ok-pages.pages in
    let read = subst (λ (l : List Block). IsDirectoryRead l pages) c.as_slice.ensures c.in_ok-pages.ensures.read in
    let numbers = subst (λ (l : List Page). AreNumbers (entries_of l) c.in_ok-numbers.numbers) c.as_slice-2.ensures c.in_ok-numbers.ensures in
    let held = subst (Hold (records_of c.args.tracks.now) run.blocks) c.if-not-run.false c.in_ok-run.ensures in
    let put = subst (λ l. AreMembersPut c.args.tracks.now l c.push.new.self c.push_members.new.blocks c.in_ok-starts.starts) c.as_slice-4.ensures c.in_ok-starts.ensures.put in
    taken c.args.tracks.now run.blocks pages c.in_ok-numbers.numbers c.push.new.self c.push_members.new.blocks c.in_ok-starts.starts held read numbers
    (c.in_ok-push.ensures.ok ∙ ap (λ (b : Block). run.blocks ++ b ∷ []) c.end_of_file.ensures) put

pub returns-clause-placeable : goal.returns-clause-placeable
returns-clause-placeable c =
    let run = c.in_ok-run.run' in
    let pages = c.in_ok-pages.pages in
    let read = subst (λ (l : List Block). IsDirectoryRead l pages) c.as_slice.ensures c.in_ok-pages.ensures.read in
    let numbers = subst (λ (l : List Page). AreNumbers (entries_of l) c.in_ok-numbers.numbers) c.as_slice-2.ensures c.in_ok-numbers.ensures in
    let held = subst (Hold (records_of c.args.tracks.now) run.blocks) c.if-not-run.false c.in_ok-run.ensures in
    let put = subst (λ l. AreMembersPut c.args.tracks.now l c.push.new.self c.push_members.new.blocks c.in_ok-starts.starts) c.as_slice-4.ensures c.in_ok-starts.ensures.put in
    placeable c.args.tracks.now run.blocks pages c.in_ok-numbers.numbers c.push.new.self c.push_members.new.blocks c.in_ok-starts.starts c.requires held read numbers
    (c.in_ok-push.ensures.ok ∙ ap (λ (b : Block). run.blocks ++ b ∷ []) c.end_of_file.ensures) put
