use Rattle.layout_edit.proofs.Spaces.{extents_stay, usable_stay, entries_right}
use Rattle.layout_edit.proofs.laws.space_laws.Goals as goal

pub returns-clause-extents : goal.returns-clause-extents
returns-clause-extents c = extents_stay

pub returns-clause-usable : goal.returns-clause-usable
returns-clause-usable c = usable_stay

pub returns-clause-entries : goal.returns-clause-entries
returns-clause-entries c = entries_right
