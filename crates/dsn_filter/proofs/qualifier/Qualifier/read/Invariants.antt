use Rattle.dsn_filter.proofs.OneWord.{IsWordRead}
use Rattle.dsn_filter.proofs.qualifier.Qualifier.read.Given as goal

abbrev pub invariant-loop-place : goal.invariant-loop-place
invariant-loop-place l = IsWordRead l.text l.place l.capital
