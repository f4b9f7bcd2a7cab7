use Rattle.std.proofs.Common.{◌≡◌, ◌+◌, ◌<◌, ℕ, length, take}
use Rattle.std.specs.Prelude.{nat_lt}
use Rattle.std.specs.List.{list_any}
use Rattle.vtoc_check.specs.Reach.{is_marked}
use Rattle.vtoc_check.proofs.tracks.before_ends.Given as goal

abbrev pub invariant-loop-track : goal.invariant-loop-track
invariant-loop-track l = record {
  long : length l.marks.items ≡ l.track;
  end : (place : ℕ) → nat_lt place l.end ≡ list_any (nat_lt place) (take l.track l.ends);
  marks : (place : ℕ) → place < l.track → is_marked l.marks.items place ≡ list_any (nat_lt place) (take (place + 1) l.ends);
}
