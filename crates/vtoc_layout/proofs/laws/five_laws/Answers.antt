use Rattle.vtoc_layout.proofs.FiveChains.{walk_is_chain, one_chain}
use Rattle.vtoc_layout.proofs.laws.five_laws.Goals as goal

pub returns-clause-chain : goal.returns-clause-chain
returns-clause-chain c = walk_is_chain

pub returns-clause-one : goal.returns-clause-one
returns-clause-one c = one_chain
