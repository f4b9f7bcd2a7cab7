use Rattle.vtoc_layout.proofs.ExtentRules.{extents_permuted}
use Rattle.vtoc_layout.proofs.FreeRules.{entries_permuted}
use Rattle.vtoc_layout.proofs.Layouts.{sound, rows}
use Rattle.vtoc_layout.proofs.laws.layout_laws.Goals as goal

pub returns-clause-sound : goal.returns-clause-sound
returns-clause-sound c = sound

pub returns-clause-rows : goal.returns-clause-rows
returns-clause-rows c = rows

pub returns-clause-extents : goal.returns-clause-extents
returns-clause-extents c = extents_permuted

pub returns-clause-entries : goal.returns-clause-entries
returns-clause-entries c = entries_permuted
