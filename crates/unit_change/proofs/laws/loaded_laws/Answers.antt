use Rattle.unit_change.proofs.LoadedUnits.{loaded_online, refused_offline}
use Rattle.unit_change.proofs.laws.loaded_laws.Goals as goal

pub returns-clause-online : goal.returns-clause-online
returns-clause-online c = loaded_online

pub returns-clause-offline : goal.returns-clause-offline
returns-clause-offline c = refused_offline
