use Rattle.std.proofs.lemmas.Result.{err_from_is_err_and}
use Rattle.org_reloc.proofs.Directories.{page_refused}
use Rattle.org_reloc.proofs.directory.read_page.Goals as goal

pub returns-in_err-reading-clause-refused : goal.returns-in_err-reading-clause-refused
returns-in_err-reading-clause-refused c =
    let found = c.in-Some.ensures.found in
    let p = err_from_is_err_and c.from_residual.result c.from_residual.ensures.1 in
    rw (p.1, p.2) (page_refused c.args.block.now c.in-Some.used c.in-Some.bytes.now c.in-Some.filler.now c.in_err-reading.field-0.0 found.0 found.1 found.2 c.in_err-reading.ensures.refused)
