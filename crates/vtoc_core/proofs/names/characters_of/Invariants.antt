use Rattle.std.proofs.Common.{◌≡◌, ℕ, ◌<◌, Some, length, get_or}
use Rattle.vol_label.specs.CodePage.{ascii_of}
use Rattle.vtoc_core.proofs.names.characters_of.Given as goal

abbrev pub invariant-loop-place : goal.invariant-loop-place
invariant-loop-place l = (length l.text ≡ 44) × ((k : ℕ) → k < l.place → ascii_of (get_or l.name k 0) ≡ Some (get_or l.text k 0))
