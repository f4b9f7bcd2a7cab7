use Rattle.std.proofs.Common.{drop}
use Rattle.dsn_filter.specs.declared.dsn.Dsn.{Dsn}
use Rattle.dsn_filter.specs.Rename.{IsListed}
use Rattle.dsn_filter.proofs.rename.listed.Given as goal

abbrev pub invariant-loop-old : goal.invariant-loop-old
invariant-loop-old l = (new : Dsn) → IsListed (drop l.old-index l.pairs) l.name new → IsListed l.pairs l.name new
