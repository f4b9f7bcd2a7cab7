use Rattle.std.proofs.Common.{sym, subst}
use Rattle.volume_model.specs.Pinned.{IsNameOf}
use Rattle.dump_parts.proofs.Passing.{passes_where}
use Rattle.dump_parts.proofs.taken.passes.Goals as goal

pub returns-in_default : goal.returns-in_default
returns-in_default c = (λ t. cc, λ is. absurd (c.in_default.ensures.none is.name is.lawful (subst (IsNameOf is.name) (sym c.name_in.ensures) is.name_is)))

pub returns : goal.returns
returns c =
    passes_where c.args.filter.now c.args.today c.args.part.now.f1 c.args.part.now.tracks c.in-Some.name c.is_selected.result _ _ c.row_facts-facts.result c.in-Some.ensures.found.0
    (subst (IsNameOf c.in-Some.name) c.name_in.ensures c.in-Some.ensures.found.1) c.as_slice-include.ensures c.as_slice-exclude.ensures c.row_facts-facts.ensures c.is_selected.ensures
