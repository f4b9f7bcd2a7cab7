use Rattle.std.proofs.Common.{◌≡◌, ◌++◌, take}
use Rattle.volume_change.proofs.rows.add_rows.Given as goal

-- the rows so far
abbrev pub invariant-loop-row : goal.invariant-loop-row
invariant-loop-row l = l.after ≡ l.fn.after ++ take l.row-index l.rows
