use Rattle.std.proofs.Common.{◌≡◌, ℕ, zero, suc, ◌+◌, ◌<◌, List, [], ◌∷◌, length, drop, get_or, sym, ap, ◌∙◌, arith}
use Rattle.std.proofs.lemmas.List.{drop_all, length-set}
use Rattle.volume_change.specs.declared.change.Change.{Change}
use Rattle.unit_load.specs.declared.state.UnitState.TheVariants.{Online}
use Rattle.unit_steps.specs.Rendering.{units_after}
use Rattle.unit_session.proofs.patching.renewed.Goals as goal

drop_at : {X : Type 0} (xs : List X) (i : ℕ) (x : X) → i < length xs → x ≡ get_or xs i x → drop i xs ≡ x ∷ drop (i + 1) xs
drop_at [] i x less is = absurd (omega (arith, less))
drop_at (y ∷ xs) zero x less is = ap (λ z. z ∷ xs) (sym is)
drop_at (y ∷ xs) (suc i) x less is =
    let next : suc (i + 1) ≡ suc i + 1 = omega arith in
    drop_at xs i x (omega (arith, less)) is ∙ ap (λ (n : ℕ). x ∷ drop n (y ∷ xs)) next

pub loop-unit-preserved : goal.loop-unit-preserved
loop-unit-preserved c =
    let units = c.loop-unit.units.items in
    let change = c.loop-unit-item.result in
    let rest : drop c.loop-unit.unit-index c.args.changes.now ≡ change ∷ drop (c.loop-unit.unit-index + 1) c.args.changes.now =
    drop_at c.args.changes.now c.loop-unit.unit-index change c.loop-unit-test.true c.loop-unit-item.is in
    let more : c.loop-unit.left.rest.items ≡ c.in-Some.one ∷ c.next.new.self.rest.items = c.in-Some.ensures.items in
    record {
      long = length-set units change.0 (Online c.in-Some.one.next) ∙ c.loop-unit.invariant.long;
      same = (λ i. units_after c.loop-unit.units.items (sym rest i) (sym more i)) ∙ c.loop-unit.invariant.same;
    }

pub returns : goal.returns
returns c =
    sym (ap (λ (l : List (ℕ × Change)). units_after c.loop-unit.units.items l c.loop-unit.left.rest.items) (drop_all c.loop-unit.unit-index c.args.changes.now c.loop-unit-test.false))
    ∙ c.loop-unit.invariant.same
