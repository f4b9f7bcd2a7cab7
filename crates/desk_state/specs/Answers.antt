-- Answers to what is asked of jobs and units.
use Rattle.std.specs.Prelude.{◌≡◌, ℕ, List, find, Option, Some, None}
use Rattle.std.specs.Str.{bytes_eq}
use Rattle.serde_json.specs.Data.{Data}
use Rattle.serde_json.specs.Written.{compact_text}
use Rattle.desk_text.specs.declared.job.Job.{Job}
use Rattle.desk_text.specs.declared.job.UnitLine.{UnitLine}
use Rattle.desk_text.specs.Values.{line_value, job_value, volume_value, error_value, busy_value}
use Rattle.desk_state.specs.declared.request.Next.{Next}
use Rattle.desk_state.specs.declared.request.Next.TheVariants as nexts

-- the job of a key, if there is one
abbrev pub job_of : List ℕ → List Job → Option Job
job_of key jobs = find (λ (job : Job). bytes_eq job.key key) jobs

-- the line of a unit
abbrev pub line_of : List ℕ → List UnitLine → Option UnitLine
line_of serial lines = find (λ (line : UnitLine). bytes_eq line.serial serial) lines

-- an answer with a JSON value
abbrev pub IsAnswer : ℕ → Data → Next → Type 0
IsAnswer status value next = next ≡ nexts.Answer status (compact_text value)

abbrev pub IsRefusal : ℕ → Next → Type 0
IsRefusal status next = IsAnswer status (error_value status) next

-- a job as it stands in lists
abbrev pub IsLineAnswer : ℕ → Job → Next → Type 0
IsLineAnswer status job next = IsAnswer status (line_value job) next

abbrev pub GetAnswers : Option Job → Next → Type 0
GetAnswers None next = IsRefusal 404 next
GetAnswers (Some job) next = IsAnswer 200 (job_value job) next

-- a queued job is run, unless a run broke the pool
abbrev pub QueuedAnswers : Option ℕ → Job → Next → Type 0
QueuedAnswers None job next = next ≡ nexts.Run job.number
QueuedAnswers (Some number) job next = IsAnswer 503 (busy_value number) next

abbrev pub RunAnswersBy : Option ℕ → Job → Option (ℕ × List ℕ) → Next → Type 0
RunAnswersBy broken job None next = QueuedAnswers broken job next
RunAnswersBy broken job (Some ended) next = IsAnswer 200 (job_value job) next

abbrev pub RunAnswers : Option ℕ → Option Job → Next → Type 0
RunAnswers broken None next = IsRefusal 404 next
RunAnswers broken (Some job) next = RunAnswersBy broken job job.ended next

abbrev pub VolumeAnswers : Option UnitLine → Next → Type 0
VolumeAnswers None next = IsRefusal 404 next
VolumeAnswers (Some line) next = IsAnswer 200 (volume_value line) next
