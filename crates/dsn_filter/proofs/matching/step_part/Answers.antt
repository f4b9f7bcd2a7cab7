use Rattle.std.proofs.Common.{◌≡◌, ◌≤◌, ◌∷◌, ℕ, List, [], length, drop, ap, sym, ◌∙◌, arith, length-drop}
use Rattle.std.proofs.lemmas.List.Elements.{All-get_or}
use Rattle.dsn_filter.specs.Text.{qualifiers}
use Rattle.dsn_filter.specs.Matching.{MatchesQualifier}
use Rattle.dsn_filter.specs.Rows.{qualifiers_behind}
use Rattle.dsn_filter.proofs.Rows.{at_drop, both_asked, next_no, stepped_part, stepped_all}
use Rattle.dsn_filter.proofs.matching.step_part.Goals as goal
use Rattle.dsn_filter.proofs.matching.step_part.Goals.{then-row-place, else-row-place}

pub fits_part-requires : goal.fits_part-requires
fits_part-requires c =
    let rest : drop c.loop-rest.place (qualifiers c.args.name.now) ≡ c.first_part.result.0.now ∷ qualifiers_behind c.first_part.result.1 =
    sym c.loop-rest.invariant.0 ∙ ap qualifiers_behind c.in-Some.is ∙ c.first_part.ensures in
    let at = at_drop (qualifiers c.args.name.now) c.loop-rest.place c.first_part.result.0.now (qualifiers_behind c.first_part.result.1) [] rest in
    omega (arith, All-get_or (λ (q : List ℕ). length q ≤ 8) (qualifiers c.args.name.now) c.loop-rest.place [] at.0 c.requires.short, ap length at.1)

pub loop-rest-preserved : goal.loop-rest-preserved
loop-rest-preserved c =
    let rest : drop c.loop-rest.place (qualifiers c.args.name.now) ≡ c.first_part.result.0.now ∷ qualifiers_behind c.first_part.result.1 =
    sym c.loop-rest.invariant.0 ∙ ap qualifiers_behind c.in-Some.is ∙ c.first_part.ensures in
    let at = at_drop (qualifiers c.args.name.now) c.loop-rest.place c.first_part.result.0.now (qualifiers_behind c.first_part.result.1) [] rest in (
      sym at.2,
      omega (arith, at.0),
      stepped_part c.args.mask.now (qualifiers c.args.name.now) c.loop-rest.place c.args.row.now c.loop-rest.row c.if-row-place.row c.first_part.result.0.now
          (qualifiers_behind c.first_part.result.1) c.requires.whole rest c.loop-rest.invariant.2
          (elim c.if-row-place.branch [
            | then-row-place w ↦ both_asked (MatchesQualifier c.args.mask.now c.first_part.result.0.now) c.if-row-place.row _ _ w.row-is w.fits_part.ensures w.if-row-place.true
            | else-row-place w ↦ next_no (MatchesQualifier c.args.mask.now c.first_part.result.0.now) c.if-row-place.row _ w.row-is w.if-row-place.false
          ]),
    )

pub returns : goal.returns
returns c =
    let none : drop c.loop-rest.place (qualifiers c.args.name.now) ≡ [] = sym c.loop-rest.invariant.0 ∙ ap qualifiers_behind c.in_default.is in
    let ended : length (drop c.loop-rest.place (qualifiers c.args.name.now)) ≡ 0 = ap length none in
    let at : c.loop-rest.place ≡ length (qualifiers c.args.name.now) = omega (arith, ended, length-drop c.loop-rest.place (qualifiers c.args.name.now), c.loop-rest.invariant.1) in
    stepped_all _ c.loop-rest.place c.args.row.now c.loop-rest.row (omega (arith, at, c.requires.whole)) c.loop-rest.invariant.2
