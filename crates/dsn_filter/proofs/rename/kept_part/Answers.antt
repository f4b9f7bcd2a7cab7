use Rattle.std.proofs.Common.{◌∷◌, ap, ◌∙◌}
use Rattle.dsn_filter.specs.Rows.{qualifiers_behind}
use Rattle.dsn_filter.proofs.Renamed.{prefix_behind, prefix_before}
use Rattle.dsn_filter.proofs.rename.kept_part.Goals as goal

pub returns-in_default-Some : goal.returns-in_default-Some
returns-in_default-Some c = λ prefix.
    prefix_behind prefix c.args.name.now c.first_part.result.0.now c.in_default-Some.behind.now
    (c.first_part.ensures ∙ ap (λ t. c.first_part.result.0.now ∷ qualifiers_behind t) c.in_default-Some.is-1)

pub returns-in_default-None : goal.returns-in_default-None
returns-in_default-None c = λ prefix.
    prefix_before prefix c.args.name.now c.first_part.result.0.now
    (c.first_part.ensures ∙ ap (λ t. c.first_part.result.0.now ∷ qualifiers_behind t) c.in_default-None.is-1)
