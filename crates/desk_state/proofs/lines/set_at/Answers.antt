use Rattle.std.proofs.Common.{◌∙◌, ap}
use Rattle.desk_state.specs.Ends.{units_of}
use Rattle.desk_state.proofs.LawLemmas.{set_numbers, units_set}
use Rattle.desk_state.proofs.lines.set_at.Goals as goal

pub returns-clause-set : goal.returns-clause-set
returns-clause-set c = set_numbers c.args.lines.now c.args.place c.index-lines-place.result c.args.online c.requires

pub returns-clause-units : goal.returns-clause-units
returns-clause-units c = ap units_of (set_numbers c.args.lines.now c.args.place c.index-lines-place.result c.args.online c.requires) ∙ units_set c.args.lines.now c.args.place c.args.online
