use Rattle.std.proofs.Common.{inr, refl, sym, subst, All}
use Rattle.org_reloc.specs.Directory.{IsShaped}
use Rattle.org_reloc.proofs.Directories.{not_so, directory_read, rest_broken, from_on}
use Rattle.org_reloc.proofs.directory.read_directory.Goals as goal

pub returns-then-not-all_shaped-clause-refused : goal.returns-then-not-all_shaped-clause-refused
returns-then-not-all_shaped-clause-refused c =
    inr (
      c.number.ensures,
      rest_broken c.args.blocks.now c.in_ok-pages.pages c.in_ok-pages.ensures.read
          (λ shaped. not_so c.if-not-all_shaped.ensures (subst (All IsShaped) (sym (from_on c.args.blocks.now _ _ c.len.ensures)) shaped)),
    )

pub returns-clause-read : goal.returns-clause-read
returns-clause-read c =
    directory_read c.args.blocks.now c.in_ok-pages.pages c.in_ok-pages.ensures.read
    (subst (All IsShaped) (from_on c.args.blocks.now _ _ c.len.ensures) (c.if-not-all_shaped.ensures.0 refl))
