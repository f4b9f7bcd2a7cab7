use Rattle.vtoc_render.proofs.LoadsSlots.{loaded_load}
use Rattle.vtoc_render.proofs.laws.loading_laws.Goals as goal

pub returns : goal.returns
returns c = record { loads = loaded_load }
