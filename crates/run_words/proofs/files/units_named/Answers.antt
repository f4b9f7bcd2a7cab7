use Rattle.std.proofs.Common.{sym, subst, take, ◌+◌}
use Rattle.std.specs.List.{AllZip}
use Rattle.run_words.specs.Words.{IsUnit}
use Rattle.run_words.proofs.Lists.{zip_more, no_zip}
use Rattle.run_words.proofs.Passed.{passed}
use Rattle.run_words.proofs.files.units_named.Goals as goal

pub returns-in_err-unit_of : goal.returns-in_err-unit_of
returns-in_err-unit_of c = passed (IsUnit c.value-item.result) (AllZip IsUnit c.args.values.now) c.from_residual.result c.in_err-unit_of.field-0.0 c.from_residual.ensures.1 c.in_err-unit_of.ensures
    (no_zip IsUnit c.args.values.now c.loop-value.value-index c.value-item.result c.loop-value-test.true c.value-item.is)

pub loop-value-preserved : goal.loop-value-preserved
loop-value-preserved c = subst (λ t. AllZip IsUnit (take (c.loop-value.value-index + 1) c.args.values.now) t) (sym c.in_ok-push.ensures.ok)
    (zip_more IsUnit c.args.values.now c.loop-value.units c.loop-value.value-index c.value-item.result c.in_ok-unit_of.field-0 c.loop-value-test.true c.value-item.is c.loop-value.invariant c.in_ok-unit_of.ensures)
