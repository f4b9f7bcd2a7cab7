-- A desk's whole life.
use Rattle.std.specs.Prelude.{◌≡◌, ◌≢◌, ℕ, ◌-◌, List, [], ◌∷◌, Some, None, slice_get}
use Rattle.desk_text.specs.declared.job.Job.{Job}
use Rattle.desk_text.specs.declared.job.UnitLine.{UnitLine}
use Rattle.desk_state.specs.declared.desk.Desk.{Desk}
use Rattle.desk_state.specs.declared.request.Request.{Request}
use Rattle.desk_state.specs.declared.request.Next.{Next}
use Rattle.desk_state.specs.Desks.{Answers}
use Rattle.desk_state.specs.Ends.{with_end, IsQueued, IsRunCode, units_of}

-- the desk once the job with a number has ended, and these lines are said of its units
abbrev pub ended_desk : Desk → ℕ → ℕ → List ℕ → List UnitLine → Desk
ended_desk desk number code print lines = record desk { jobs = with_end desk.jobs (number - 1) code print; lines = lines }

-- the desk once the run of the job with a number broke the pool
abbrev pub broken_desk : Desk → ℕ → List ℕ → Desk
broken_desk desk number print = record desk { jobs = with_end desk.jobs (number - 1) 16 print; broken = Some number }

-- what happens to a desk: a request is answered, or the run of a queued job ends, and maybe breaks the pool
pub data Event : Type 0 where
  asked : Request → Next → Event
  ran : ℕ → ℕ → List ℕ → List UnitLine → Event
  broke : ℕ → List ℕ → Event

abbrev pub Happens : Desk → Event → Desk → Type 0
Happens old (asked request next) new = Answers old request new next
Happens old (ran number code print lines) new =
    IsQueued old.jobs number × (old.broken ≡ None) × IsRunCode code × (units_of lines ≡ units_of old.lines) × (new ≡ ended_desk old number code print lines)
Happens old (broke number print) new = IsQueued old.jobs number × (old.broken ≡ None) × (new ≡ broken_desk old number print)

abbrev pub Lives : Desk → List Event → Desk → Type 0
Lives old [] new = new ≡ old
Lives old (event ∷ events) new = (mid : Desk) × Happens old event mid × Lives mid events new

-- a job that ended is there as it was, at its place
abbrev pub KeepsEnded : List Job → List Job → Type 0
KeepsEnded old new = (place : ℕ) (job : Job) → slice_get old place ≡ Some job → job.ended ≢ None → slice_get new place ≡ Some job
