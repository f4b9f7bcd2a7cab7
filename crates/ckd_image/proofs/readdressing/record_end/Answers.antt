use Rattle.std.proofs.Common.{arith}
use Rattle.std.proofs.lemmas.Grind.{common_steps}
use Rattle.ckd_image.proofs.readdressing.record_end.Goals as goal

pub returns-clause-found : goal.returns-clause-found
returns-clause-found c = record {
  rec = record { r = c.in_ok-count.count.r; key = c.in_ok-key.key.now; body = c.in_ok-body.body.now };
  rest = c.in_ok-body.field-0-1.now;
  sound = record {
    numbered = omega arith;
    number_fits = c.in_ok-count.ensures.found.0.r;
    key_fits = omega (arith, c.in_ok-key.ensures.found.1, c.in_ok-count.ensures.found.0.key);
    body_fits = omega (arith, c.in_ok-body.ensures.found.1, c.in_ok-count.ensures.found.0.body);
  };
  begins = grind (arith, common_steps);
  len_is = grind (arith, common_steps);
}
