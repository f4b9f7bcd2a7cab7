use Rattle.dsn_filter.specs.Scan.{form_of}
use Rattle.dsn_filter.proofs.Scanned.{IsReading}
use Rattle.dsn_filter.proofs.part.scan.Given as goal

abbrev pub invariant-loop-place : goal.invariant-loop-place
invariant-loop-place l = IsReading (form_of l.kind) l.text l.place l.start l.capital
