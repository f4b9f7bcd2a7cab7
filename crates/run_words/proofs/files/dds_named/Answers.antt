use Rattle.std.proofs.Common.{sym, subst, take, ◌+◌}
use Rattle.std.specs.List.{AllZip}
use Rattle.run_words.specs.Words.{IsDd}
use Rattle.run_words.proofs.Lists.{zip_more, no_zip}
use Rattle.run_words.proofs.Passed.{passed}
use Rattle.run_words.proofs.files.dds_named.Goals as goal

pub returns-in_err-dd_of : goal.returns-in_err-dd_of
returns-in_err-dd_of c = passed (IsDd c.value-item.result) (AllZip IsDd c.args.values.now) c.from_residual.result c.in_err-dd_of.field-0.0 c.from_residual.ensures.1 c.in_err-dd_of.ensures
    (no_zip IsDd c.args.values.now c.loop-value.value-index c.value-item.result c.loop-value-test.true c.value-item.is)

pub loop-value-preserved : goal.loop-value-preserved
loop-value-preserved c = subst (λ t. AllZip IsDd (take (c.loop-value.value-index + 1) c.args.values.now) t) (sym c.in_ok-push.ensures.ok)
    (zip_more IsDd c.args.values.now c.loop-value.dds c.loop-value.value-index c.value-item.result c.in_ok-dd_of.field-0 c.loop-value-test.true c.value-item.is c.loop-value.invariant c.in_ok-dd_of.ensures)
