use Rattle.std.proofs.Common.{inl, inr, arith, rules, refl, ap, length, length-append}
use Rattle.ckd_image.specs.declared.track.TrackField.TheVariants.{Address, Length}
use Rattle.ckd_image.proofs.parse.record_at.Goals as goal

pub returns-in_default-split-clause-refused : goal.returns-in_default-split-clause-refused
returns-in_default-split-clause-refused c =
    rw c.wrong-in_default-split.ensures (
      Length,
      6,
      refl,
      refl,
      (
        record {
          count = c.in-Some.count;
          rest = c.in-Some.rest.now;
          numbers = c.in-Some.ensures.found.0;
          begins = c.in-Some.ensures.found.1;
          wrong = (refl, search rules, omega arith, omega (arith, c.in_default-split.ensures.short));
        },
        c.requires.no_end,
      ),
    )

pub returns-in_default-split-2-clause-refused : goal.returns-in_default-split-2-clause-refused
returns-in_default-split-2-clause-refused c =
    rw c.wrong-in_default-split-2.ensures (
      Length,
      6,
      refl,
      refl,
      (
        record {
          count = c.in-Some.count;
          rest = c.in-Some.rest.now;
          numbers = c.in-Some.ensures.found.0;
          begins = c.in-Some.ensures.found.1;
          wrong = (refl, search rules, omega arith, omega (arith, c.in_default-split-2.ensures.short, c.in-Some-split.ensures.found.1, ap length c.in-Some-split.ensures.found.0, length-append c.in-Some-split.key.now c.in-Some-split.rest.now));
        },
        c.requires.no_end,
      ),
    )

pub returns-then-not-is_at-clause-refused : goal.returns-then-not-is_at-clause-refused
returns-then-not-is_at-clause-refused c =
    rw c.wrong-then-not-is_at.ensures (
      Address,
      0,
      refl,
      omega arith,
      (
        record {
          count = c.in-Some.count;
          rest = c.in-Some.rest.now;
          numbers = c.in-Some.ensures.found.0;
          begins = c.in-Some.ensures.found.1;
          wrong = inl (refl, λ h. let t = c.if-not-is_at.ensures.1 h in cc);
        },
        c.requires.no_end,
      ),
    )

pub returns-then-count-eq0-clause-refused : goal.returns-then-count-eq0-clause-refused
returns-then-count-eq0-clause-refused c =
    rw c.wrong-then-count-eq0.ensures (
      Address,
      4,
      refl,
      refl,
      (
        record {
          count = c.in-Some.count;
          rest = c.in-Some.rest.now;
          numbers = c.in-Some.ensures.found.0;
          begins = c.in-Some.ensures.found.1;
          wrong = inr (refl, search rules, omega arith);
        },
        c.requires.no_end,
      ),
    )
