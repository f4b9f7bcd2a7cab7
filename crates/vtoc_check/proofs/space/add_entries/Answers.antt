use Rattle.std.proofs.Common.{◌≡◌, ◌++◌, ℕ, subst, arith}
use Rattle.vtoc_check.proofs.Spaces.{entries_below}
use Rattle.vtoc_check.proofs.space.add_entries.Goals as goal

pub returns : goal.returns
returns c =
    let P : ℕ → Type 0 = λ n. c.loop-place.runs.items ≡ c.args.runs.now.items ++ entries_below c.args.heads c.args.bytes.now n in
    let all : c.loop-place.place ≡ 26 = omega arith in
    subst P all c.loop-place.invariant
