use Rattle.sysin_read.proofs.Finishing.{fresh_reads}
use Rattle.sysin_read.proofs.text.TextReading.new.Goals as goal

pub returns-clause-reads : goal.returns-clause-reads
returns-clause-reads c = fresh_reads c.new.result c.new.ensures
