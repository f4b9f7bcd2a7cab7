use Rattle.std.proofs.Common.{◌≡◌, ◌+◌, length, drop}
use Rattle.dsn_filter.specs.Matching.{MatchesQualifier}
use Rattle.dsn_filter.proofs.Rows.{IsRow}
use Rattle.dsn_filter.proofs.matching.fits_part.Given as goal

abbrev pub invariant-loop-place : goal.invariant-loop-place
invariant-loop-place l = (length l.row ≡ length l.part + 1) × IsRow (λ at. MatchesQualifier (drop l.place l.mask) (drop at l.part)) l.row
