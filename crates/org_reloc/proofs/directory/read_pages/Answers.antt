use Rattle.std.proofs.lemmas.Result.{err_from_is_err_and}
use Rattle.std.proofs.Common.{inr, arith}
use Rattle.std.proofs.lemmas.List.{nil_from_length}
use Rattle.org_reloc.proofs.Directories.{page_more, page_last, pages_refused, no_last}
use Rattle.org_reloc.proofs.directory.read_pages.Goals as goal

pub returns-in_err-page-clause-refused : goal.returns-in_err-page-clause-refused
returns-in_err-page-clause-refused c =
    let p = err_from_is_err_and c.from_residual.result c.from_residual.ensures.1 in
    rw (p.1, p.2) (pages_refused c.args.blocks.now c.loop-block.block-index c.block-item.result c.loop-block.pages c.in_err-page.field-0.0 c.loop-block.invariant c.loop-block-test.true c.block-item.is c.in_err-page.ensures.refused)

pub returns-then-last-clause-read : goal.returns-then-last-clause-read
returns-then-last-clause-read c =
    page_last c.args.blocks.now c.loop-block.block-index c.block-item.result c.loop-block.pages c.push.new.self c.in_ok-page.page c.loop-block.invariant c.loop-block-test.true c.block-item.is
    c.in_ok-page.ensures.read (omega (arith, c.if-last.true, c.len-last.ensures)) c.in_ok-push.ensures.ok

pub loop-block-preserved : goal.loop-block-preserved
loop-block-preserved c =
    page_more c.args.blocks.now c.loop-block.block-index c.block-item.result c.loop-block.pages c.push.new.self c.in_ok-page.page c.loop-block.invariant c.loop-block-test.true c.block-item.is
    c.in_ok-page.ensures.read (nil_from_length c.in_ok-page.page.left (omega (arith, c.if-last.false, c.len-last.ensures))) c.in_ok-push.ensures.ok

pub returns-clause-refused : goal.returns-clause-refused
returns-clause-refused c = inr (c.number.ensures, no_last c.args.blocks.now c.loop-block.block-index c.loop-block.pages c.loop-block.invariant c.loop-block-test.false)
