use Rattle.std.proofs.Common.{◌≡◌, ◌+◌, length, drop}
use Rattle.dsn_filter.specs.Text.{qualifiers}
use Rattle.dsn_filter.specs.Matching.{Matches}
use Rattle.dsn_filter.proofs.Rows.{IsRow}
use Rattle.dsn_filter.proofs.matching.fits_name.Given as goal

abbrev pub invariant-loop-place : goal.invariant-loop-place
invariant-loop-place l = (length l.row ≡ length (qualifiers l.name) + 1) × IsRow (λ at. Matches (drop l.place l.parts) (drop at (qualifiers l.name))) l.row
