use Rattle.move_core.proofs.OneVtoc.{read_vtoc}
use Rattle.move_core.proofs.Online.{loaded_is_online}
use Rattle.move_core.proofs.laws.online_laws.Goals as goal

pub returns-clause-vtoc : goal.returns-clause-vtoc
returns-clause-vtoc c = read_vtoc

pub returns-clause-online : goal.returns-clause-online
returns-clause-online c = loaded_is_online
