use Rattle.std.proofs.Common.{refl, sym, ◌∙◌, arith}
use Rattle.std.proofs.lemmas.Bool.{false≢true}
use Rattle.std.proofs.lemmas.List.{take_more_same, take_all}
use Rattle.std.proofs.lemmas.Option.{slice_get-get_or}
use Rattle.redo_core.proofs.opening.check_names.Goals as goal

pub returns-then-not-is_same-clause-refused : goal.returns-then-not-is_same-clause-refused
returns-then-not-is_same-clause-refused c = record {
  before = c.loop-unit.invariant;
  kept_is = slice_get-get_or c.args.registered.now c.loop-unit.unit _ (omega (arith, c.loop-unit-test.true, c.requires.same));
  found_is = slice_get-get_or c.args.names.now c.loop-unit.unit _ c.loop-unit-test.true;
  other = λ same. false≢true (c.if-not-is_same.ensures.1 same);
}

pub loop-unit-preserved : goal.loop-unit-preserved
loop-unit-preserved c =
    take_more_same c.args.names.now c.args.registered.now c.loop-unit.unit _ c.loop-unit-test.true (omega (arith, c.loop-unit-test.true, c.requires.same)) c.loop-unit.invariant (c.if-not-is_same.ensures.0 refl)

pub returns-clause-same : goal.returns-clause-same
returns-clause-same c =
    sym (take_all c.loop-unit.unit c.args.registered.now (omega (arith, c.loop-unit-test.false, c.requires.same))) ∙ sym c.loop-unit.invariant ∙ take_all c.loop-unit.unit c.args.names.now c.loop-unit-test.false
