-- Runs that ended.
use Rattle.std.specs.Prelude.{◌≡◌, ◌==◌, ℕ, zero, suc, ◌+◌, ◌-◌, ◌≤◌, List, [], ◌∷◌, map, Option, Some, None, slice_get, IsTrue}
use Rattle.std.specs.List.{list_any}
use Rattle.desk_text.specs.declared.job.Job.{Job}
use Rattle.desk_text.specs.declared.job.UnitLine.{UnitLine}
use Rattle.desk_text.specs.declared.job.VolumeNumbers.{VolumeNumbers}

-- the codes with which a run ends that didn't break the pool
abbrev pub IsRunCode : ℕ → Type 0
IsRunCode code = IsTrue (list_any (λ c. c == code) (0 ∷ 4 ∷ 8 ∷ 12 ∷ 32 ∷ 44 ∷ []))

-- the codes of ended jobs
abbrev pub IsJobCode : ℕ → Type 0
IsJobCode code = IsTrue (list_any (λ c. c == code) (0 ∷ 4 ∷ 8 ∷ 12 ∷ 16 ∷ 32 ∷ 44 ∷ []))

-- a job that ended has one of them
abbrev pub IsEndCode : Option (ℕ × List ℕ) → Type 0
IsEndCode None = Unit {0}
IsEndCode (Some ended) = IsJobCode ended.0

abbrev pub AreCoded : List Job → Type 0
AreCoded [] = Unit {0}
AreCoded (job ∷ jobs) = IsEndCode job.ended × AreCoded jobs

-- the job at a place has ended so
abbrev pub with_end : List Job → ℕ → ℕ → List ℕ → List Job
with_end [] place code print = []
with_end (job ∷ jobs) zero code print = record job { ended = Some (code, print) } ∷ jobs
with_end (job ∷ jobs) (suc place) code print = job ∷ with_end jobs place code print

-- a queued job with this number
pub record IsQueued (jobs : List Job) (number : ℕ) : Type 0 where
  pub first : 1 ≤ number
  pub job : Job
  pub there : slice_get jobs (number - 1) ≡ Some job
  pub queued : job.ended ≡ None

abbrev pub AreNumberedFrom : ℕ → List Job → Type 0
AreNumberedFrom n [] = Unit {0}
AreNumberedFrom n (job ∷ jobs) = (job.number ≡ n) × AreNumberedFrom (n + 1) jobs

abbrev pub AreNumbered : List Job → Type 0
AreNumbered jobs = AreNumberedFrom 1 jobs

-- this is said of the unit at a place
abbrev pub with_numbers : List UnitLine → ℕ → Option VolumeNumbers → List UnitLine
with_numbers [] place online = []
with_numbers (line ∷ lines) zero online = record line { online = online } ∷ lines
with_numbers (line ∷ lines) (suc place) online = line ∷ with_numbers lines place online

-- which units there are
abbrev pub units_of : List UnitLine → List (List ℕ)
units_of lines = map (λ (line : UnitLine). line.serial) lines
