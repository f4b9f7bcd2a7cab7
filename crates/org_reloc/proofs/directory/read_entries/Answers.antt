use Rattle.std.proofs.Common.{refl, inl, ap, ◌∙◌, drop}
use Rattle.org_reloc.proofs.Directories.{not_so, entries_more, user_entry}
use Rattle.org_reloc.proofs.directory.read_entries.Goals as goal

pub returns-then-not-is_plain-clause-refused : goal.returns-then-not-is_plain-clause-refused
returns-then-not-is_plain-clause-refused c =
    let found = rw c.in-Some.is at c.in_ok-entry.ensures.found in
    inl (c.number-then-not-is_plain.ensures, user_entry c.args.bytes.now c.entries.rest.now c.entries.entries c.in-Some.entry 0 c.entries.invariant found.0 found.1 found.2 (not_so c.entries-test.ensures) (not_so c.if-not-is_plain.ensures))

pub entries-preserved : goal.entries-preserved
entries-preserved c =
    let found = rw c.in-Some.is at c.in_ok-entry.ensures.found in
    entries_more c.args.bytes.now c.entries.rest.now c.tail-rest.result.now c.entries.entries c.push.new.self c.in-Some.entry c.entries.invariant found.0 found.1 found.2
    (not_so c.entries-test.ensures) (c.if-not-is_plain.ensures.0 refl) (c.tail-rest.ensures ∙ ap (λ n. drop n c.entries.rest.now) c.len.ensures) c.in_ok-push.ensures.ok
