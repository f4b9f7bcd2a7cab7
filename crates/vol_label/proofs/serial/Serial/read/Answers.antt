use Rattle.std.proofs.Common.{arith, below_more, length-set}
use Rattle.std.proofs.lemmas.Grind.{common_steps}
use Rattle.vol_label.specs.Serial.{IsSerialCharacter}
use Rattle.vol_label.proofs.Characters.{all_of, pushed_code, pushed_blank}
use Rattle.vol_label.proofs.serial.Serial.read.Goals as goal

pub loop-place-preserved : goal.loop-place-preserved
loop-place-preserved c = record {
  six = simp length-set c.loop-place.invariant.six;
  characters = below_more _ _ c.loop-place.invariant.characters c.in-Some.ensures.found.0;
  coded = pushed_code c.args.text.now c.loop-place.serial c.loop-place.place c.in-Some.code (omega arith) c.loop-place.invariant.coded c.in-Some.ensures.found.1;
  blanks = pushed_blank c.loop-place.serial c.loop-place.place c.in-Some.code c.loop-place.invariant.blanks;
}

pub returns-clause-read : goal.returns-clause-read
returns-clause-read c = (
  record {
    some = grind (arith, common_steps);
    few = omega arith;
    characters = all_of IsSerialCharacter c.args.text.now (λ k lt. c.loop-place.invariant.characters k (omega arith));
  },
  record {
    six = c.loop-place.invariant.six;
    characters = λ k lt. c.loop-place.invariant.coded k (omega arith);
    blanks = λ k from to. c.loop-place.invariant.blanks k (omega arith) to;
  },
)
