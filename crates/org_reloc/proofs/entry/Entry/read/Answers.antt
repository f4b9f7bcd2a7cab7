use Rattle.std.proofs.Common.{◌∙◌, ap, arith, length}
use Rattle.org_reloc.specs.declared.entry.Entry.{Entry}
use Rattle.org_reloc.proofs.Entries.{data_short, entry_found}
use Rattle.org_reloc.proofs.entry.Entry.read.Goals as goal

pub returns-in_default-split-clause-none : goal.returns-in_default-split-clause-none
returns-in_default-split-clause-none c entry sound fits =
    data_short entry c.in-Some.heading c.args.bytes.now c.in-Some.rest.now c.in-Some.ensures.found.0 c.in-Some.ensures.found.1 (omega (arith, c.in_default-split.ensures.short, c.data_len.ensures)) sound fits

pub returns-clause-found : goal.returns-clause-found
returns-clause-found c =
    let entry : Entry = record { name = c.in-Some.heading.name; place = c.in-Some.heading.place; kind = c.in-Some.heading.kind; «data» = c.in_ok-data.data } in (
      c.in-Some.ensures.found.0,
      ap length c.in_ok-data.ensures ∙ c.in-Some-split.ensures.found.1 ∙ c.data_len.ensures,
      entry_found entry c.args.bytes.now c.in-Some.rest.now c.in-Some-split.data.now c.in-Some-split.field-0-1.now c.in-Some.ensures.found.1 c.in-Some-split.ensures.found.0 c.in_ok-data.ensures,
    )
