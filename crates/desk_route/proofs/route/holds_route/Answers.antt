use Rattle.std.proofs.Common.{◌≡◌, ◌++◌, ◌∷◌, ap, drop, subst, sym, ◌∙◌, rules}
use Rattle.desk_route.specs.Places.{IsPiece, IsBehind}
use Rattle.desk_route.proofs.RouteLemmas.{holds_none_holder, some_by}
use Rattle.desk_route.proofs.route.holds_route.Goals as goal

pub returns-in_err-holder-clause-none : goal.returns-in_err-holder-clause-none
returns-in_err-holder-clause-none c =
    let name = c.in_ok-name.name.now in
    let behind = c.in_ok-name.behind.now in
    let rest = c.in_ok-behind.behind.now in
    let parts : c.args.rest.now ≡ name ++ behind = search rules in
    let piece : IsPiece name = search rules in
    let ends : IsBehind behind = search rules in
    let slash : behind ≡ 47 ∷ rest = search rules in
    let none : ¬ IsPiece rest = search rules in
    rw c.from_residual-in_err-holder.ensures
    (holds_none_holder c.args.rest.now name behind parts piece ends (some_by behind c.is_empty.result c.is_empty.ensures c.if-is_empty.false)
    (λ holder same is. none (subst IsPiece (ap (drop 1) (sym same ∙ slash)) is)))
