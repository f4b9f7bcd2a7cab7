use Rattle.std.proofs.Common.{◌≢◌, ℕ, List, All, AllPairs, take, sym, subst, refl}
use Rattle.vol_label.specs.declared.serial.Serial.{Serial}
use Rattle.run_words.proofs.Ends.{not_false}
use Rattle.run_words.proofs.Lists.{apart_more, apart_before, all_taken}
use Rattle.run_words.proofs.files.do_serials_differ.Goals as goal

abbrev Differ : Serial × List ℕ → Serial × List ℕ → Type 0
Differ one other = one.0 ≢ other.0

pub returns-then-not-lacks_serial : goal.returns-then-not-lacks_serial
returns-then-not-lacks_serial c = (
  λ wrong. absurd (not_false wrong),
  λ pairs. c.if-not-lacks_serial.ensures.1 (subst (λ (t : Serial × List ℕ). All (λ y. Differ y t) (take c.loop-place.place c.args.units.now)) c.index-units-place.is
      (apart_before Differ c.args.units.now c.loop-place.place c.index-units-place.result c.loop-place-test.true c.index-units-place.is pairs)),
)

pub loop-place-preserved : goal.loop-place-preserved
loop-place-preserved c =
    apart_more Differ c.args.units.now c.loop-place.place c.index-units-place.result c.loop-place-test.true c.index-units-place.is c.loop-place.invariant
    (subst (λ (t : Serial × List ℕ). All (λ y. Differ y t) (take c.loop-place.place c.args.units.now)) (sym c.index-units-place.is) (c.if-not-lacks_serial.ensures.0 refl))

pub returns : goal.returns
returns c =
    let whole = all_taken c.args.units.now c.loop-place.place c.loop-place.auto.place-end c.loop-place-test.false in
    (λ right. subst (λ (t : List (Serial × List ℕ)). AllPairs Differ t) whole c.loop-place.invariant, λ pairs. refl)
