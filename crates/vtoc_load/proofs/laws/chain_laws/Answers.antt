use Rattle.vtoc_load.proofs.Chains.{chains_apart}
use Rattle.vtoc_load.proofs.laws.chain_laws.Goals as goal

pub returns : goal.returns
returns c = record { apart = chains_apart }
