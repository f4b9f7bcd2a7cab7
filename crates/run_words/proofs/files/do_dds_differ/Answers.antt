use Rattle.std.proofs.Common.{◌≢◌, ℕ, List, All, AllPairs, take, sym, subst, refl}
use Rattle.dd_names.specs.declared.dd.DdName.{DdName}
use Rattle.run_words.proofs.Ends.{not_false}
use Rattle.run_words.proofs.Lists.{apart_more, apart_before, all_taken}
use Rattle.run_words.proofs.files.do_dds_differ.Goals as goal

abbrev Differ : DdName × List ℕ → DdName × List ℕ → Type 0
Differ one other = one.0 ≢ other.0

pub returns-then-not-lacks_dd : goal.returns-then-not-lacks_dd
returns-then-not-lacks_dd c = (
  λ wrong. absurd (not_false wrong),
  λ pairs. c.if-not-lacks_dd.ensures.1 (subst (λ (t : DdName × List ℕ). All (λ y. Differ y t) (take c.loop-place.place c.args.dds.now)) c.index-dds-place.is
      (apart_before Differ c.args.dds.now c.loop-place.place c.index-dds-place.result c.loop-place-test.true c.index-dds-place.is pairs)),
)

pub loop-place-preserved : goal.loop-place-preserved
loop-place-preserved c =
    apart_more Differ c.args.dds.now c.loop-place.place c.index-dds-place.result c.loop-place-test.true c.index-dds-place.is c.loop-place.invariant
    (subst (λ (t : DdName × List ℕ). All (λ y. Differ y t) (take c.loop-place.place c.args.dds.now)) (sym c.index-dds-place.is) (c.if-not-lacks_dd.ensures.0 refl))

pub returns : goal.returns
returns c =
    let whole = all_taken c.args.dds.now c.loop-place.place c.loop-place.auto.place-end c.loop-place-test.false in
    (λ right. subst (λ (t : List (DdName × List ℕ)). AllPairs Differ t) whole c.loop-place.invariant, λ pairs. refl)
