use Rattle.std.proofs.Common.{◌≡◌, ◌≤◌, ◌+◌, ◌-◌, ◌*◌, length, drop, get_or}
use Rattle.sysin_lang.specs.Flow.{Done}
use Rattle.sysin_lang.specs.Script.{plans_of}
use Rattle.sysin_lang.proofs.script.behind_part.Given as goal

abbrev pub invariant-ends : goal.invariant-ends
invariant-ends l =
    (l.fn.place ≤ l.place) × (l.place ≤ length l.steps) × (l.ends ≤ 1 + 2 * l.place)
    × (get_or (plans_of (drop l.place l.steps)) l.ends Done ≡ get_or (plans_of (drop l.fn.place l.steps)) 1 Done)

abbrev pub decreases-ends : goal.decreases-ends
decreases-ends l = length l.steps - l.place
