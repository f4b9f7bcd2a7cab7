-- Jobs at their places.
use Rattle.std.proofs.Common.{◌≡◌, ℕ, zero, suc, ◌-◌, ◌<◌, ◌≤◌, List, [], ◌∷◌, length, Some, refl, arith}
use Rattle.std.specs.Prelude.{slice_get}
use Rattle.std.proofs.lemmas.Option.{none-some}
use Rattle.desk_text.specs.declared.job.Job.{Job}
use Rattle.desk_state.specs.Ends.{with_end, IsQueued}

within : (jobs : List Job) (place : ℕ) (job : Job) → slice_get jobs place ≡ Some job → place < length jobs
within [] place job there = absurd (none-some job there)
within (j ∷ jobs) zero job there = omega arith
within (j ∷ jobs) (suc place) job there = omega (arith, within jobs place job there)

pub number_within : (jobs : List Job) (number : ℕ) → IsQueued jobs number → number ≤ length jobs
number_within jobs number q = omega (arith, within jobs (number - 1) q.job q.there, q.first)

pub length_end : (jobs : List Job) (place code : ℕ) (print : List ℕ) → length (with_end jobs place code print) ≡ length jobs
length_end [] place code print = refl
length_end (j ∷ jobs) zero code print = refl
length_end (j ∷ jobs) (suc place) code print = omega (arith, length_end jobs place code print)
