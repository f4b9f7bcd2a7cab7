-- What a stop leaves while a journal is made.
use Rattle.std.proofs.Common.{◌≡◌, inl, ℕ, Bool, false, refl, subst, ap, ◌∙◌, arith}
use Rattle.std.specs.Prelude.{◌||◌}
use Rattle.std.proofs.lemmas.Bool.{or_parts}
use Rattle.dasd_pool.specs.Disk.{Shape, State, Disk, Runs, LeavesOnly, Spares, is_at, none}
use Rattle.dasd_pool.proofs.Moments.{and_then, weaken, runs_then}
use Rattle.redo_core.specs.Steps.{of_making, of_status}
use Rattle.redo_core.specs.Opening.{MakingLeaves}
use Rattle.redo_core.proofs.Formatting.{in_making}

-- gate and control are two blocks of the journal
pub two_blocks : (journal u b : ℕ) → of_status journal u b ≡ false → (is_at journal 1 u b ≡ false) × (is_at journal 2 u b ≡ false)
two_blocks journal u b apart = or_parts (is_at journal 1 u b) (is_at journal 2 u b) apart

pub status_in_making : (journal u b : ℕ) → of_making journal u b ≡ false → of_status journal u b ≡ false
status_in_making journal u b apart = ap (λ (t : Bool). t || is_at journal 2 u b) (in_making journal 1 u b (omega arith) apart) ∙ in_making journal 2 u b (omega arith) apart

-- a look at the blocks comes first
pub left_after : (shape other : Shape) (old mid new : Disk) → other ≡ shape → mid.state ≡ old.state → Runs none old mid → LeavesOnly mid new (MakingLeaves other mid.state) → LeavesOnly old new (MakingLeaves shape old.state)
left_after shape other old mid new one_shape one_state run later = and_then old mid new (MakingLeaves shape old.state)
    (weaken old mid (Spares none old.state) (MakingLeaves shape old.state) (λ image spares. inl (λ u b apart was. spares u b refl was)) run.leaves)
    (subst (λ (state : State). LeavesOnly mid new (MakingLeaves shape state)) one_state (subst (λ (s : Shape). LeavesOnly mid new (MakingLeaves s mid.state)) one_shape later))

-- the three steps of it write these blocks
pub made_runs : (journal : ℕ) (old mid next new : Disk) → Runs (is_at journal 0) old mid → Runs (of_status journal) mid next → Runs (is_at journal 0) next new → Runs (of_making journal) old new
made_runs journal old mid next new first second third =
    let all = of_making journal in
    let both : Runs all old next = runs_then all (is_at journal 0) (of_status journal) old mid next (λ u b apart. in_making journal 0 u b (omega arith) apart) (λ u b apart. status_in_making journal u b apart) first second in
    runs_then all all (is_at journal 0) old next new (λ u b apart. apart) (λ u b apart. in_making journal 0 u b (omega arith) apart) both third
