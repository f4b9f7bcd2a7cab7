use Rattle.dasd_pool.proofs.FileSizes.{files_said, files_fit}
use Rattle.dasd_pool.proofs.file.FilePoolPool.sizes.Goals as goal

pub returns-clause-said : goal.returns-clause-said
returns-clause-said g c = λ u below. files_said c.args.self.now.units.items u

pub returns-clause-fits : goal.returns-clause-fits
returns-clause-fits g c = λ u below. files_fit c.args.self.now.units.items u
