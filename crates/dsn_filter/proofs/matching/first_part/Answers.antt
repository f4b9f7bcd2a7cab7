use Rattle.std.proofs.Common.{◌∷◌, List, ℕ, take, ap, subst, sym, ◌∙◌, arith}
use Rattle.std.proofs.lemmas.List.{take_all}
use Rattle.dsn_filter.specs.Text.{qualifiers}
use Rattle.dsn_filter.proofs.Joins.{Dotless}
use Rattle.dsn_filter.proofs.Parts.{qualifiers_at_dot, qualifiers_last}
use Rattle.dsn_filter.proofs.matching.first_part.Goals as goal

pub returns-then-byte-eq46 : goal.returns-then-byte-eq46
returns-then-byte-eq46 c =
    qualifiers_at_dot c.args.text.now c.loop-place.place c.loop-place-test.true c.loop-place.invariant c.if-byte-eq46.true
    ∙ ap (λ (t : List ℕ). take c.loop-place.place c.args.text.now ∷ qualifiers t) (sym c.tail.ensures)

pub returns : goal.returns
returns c = qualifiers_last c.args.text.now (subst Dotless (take_all c.loop-place.place c.args.text.now (omega arith)) c.loop-place.invariant)
