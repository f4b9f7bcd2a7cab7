use Rattle.std.proofs.Common.{◌≡◌, ◌∙◌, [], ℕ, arith, ap, inl, inr}
use Rattle.std.proofs.lemmas.Bool.{cases_eq, cases_lt}
use Rattle.dasd_pool.specs.declared.units.UnitText.{UnitText}
use Rattle.dasd_pool.specs.Calls.{size_in, size_of}
use Rattle.dasd_pool.proofs.Texts.{map_read, no_size}
use Rattle.dasd_pool.proofs.memory.largest_size.Goals as goal

pub loop-unit-preserved : goal.loop-unit-preserved
loop-unit-preserved c = λ u below. elim (cases_eq u c.loop-unit.unit-index) [
  | inl same ↦
      let size : size_of c.args.units.now u ≡ size_in c.unit-item.result.head =
      ap (λ (n : ℕ). size_of c.args.units.now n) same ∙ ap size_in (map_read (λ (t : UnitText). t.head) c.args.units.now c.loop-unit.unit-index c.unit-item.result [] c.loop-unit-test.true c.unit-item.is) in
      omega (arith, size, c.said_size.ensures, c.max-largest.ensures)
  | inr apart ↦ omega (arith, c.loop-unit.invariant u (omega arith), c.max-largest.ensures)
]

pub returns : goal.returns
returns c = λ u. elim (cases_lt u c.loop-unit.unit-index) [
  | inl less ↦ c.loop-unit.invariant u less
  | inr past ↦ omega (arith, no_size c.args.units.now u (omega arith))
]
