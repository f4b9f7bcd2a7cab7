-- The desk's states, and its steps.
use Rattle.std.specs.Prelude.{◌≡◌, ◌⊎◌, ℕ, ◌+◌, ◌<◌, ◌≤◌, List, [], ◌∷◌, ◌++◌, length, codes, Option, Some, None, All}
use Rattle.dsn_filter.specs.declared.dsn.Dsn.{Dsn}
use Rattle.dsn_filter.specs.Dsn.{IsDsn}
use Rattle.enq_table.specs.declared.holder.Holder.{Holder}
use Rattle.enq_table.specs.declared.hold.Hold.{Hold}
use Rattle.enq_table.specs.Holder.{IsHolder}
use Rattle.enq_table.specs.Table.{StandsAgainst, IsFirstHolder, Has, Releases}
use Rattle.desk_text.specs.declared.job.Job.{Job}
use Rattle.desk_text.specs.Values.{jobs_value}
use Rattle.desk_text.specs.Answers.{IsDeskAnswer}
use Rattle.desk_state.specs.declared.desk.Desk.{Desk}
use Rattle.desk_state.specs.declared.request.Request.{Request}
use Rattle.desk_state.specs.declared.request.Request.TheVariants as requests
use Rattle.desk_state.specs.declared.request.Next.{Next}
use Rattle.desk_state.specs.declared.request.Next.TheVariants as nexts
use Rattle.desk_state.specs.Ends.{IsQueued}
use Rattle.desk_state.specs.Answers.{job_of, line_of, IsRefusal, IsLineAnswer, IsAnswer, GetAnswers, RunAnswers, VolumeAnswers}

-- a job that was posted as the last of so many
abbrev pub posted : ℕ → List ℕ → List ℕ → Job
posted number key text = record { key = key; number = number; text = text; ended = None }

abbrev pub with_job : Desk → Job → Desk
with_job desk job = record desk { jobs = desk.jobs ++ (job ∷ []) }

-- a new key is kept while fewer than 1,000 jobs are; one that is kept is answered where it has the same text
abbrev pub PostAnswers : Desk → List ℕ → List ℕ → Option Job → Desk → Next → Type 0
PostAnswers old key text None new next =
    ((1000 ≤ length old.jobs) × (new ≡ old) × IsRefusal 429 next)
    ⊎ ((length old.jobs < 1000) × (new ≡ with_job old (posted (length old.jobs + 1) key text)) × IsLineAnswer 201 (posted (length old.jobs + 1) key text) next)
PostAnswers old key text (Some job) new next =
    (new ≡ old) × (((job.text ≡ text) × IsLineAnswer 200 job next) ⊎ ((¬ (job.text ≡ text)) × IsRefusal 409 next))

-- a hold is kept where none stands against it
abbrev pub HoldAnswers : Desk → Hold → Desk → Next → Type 0
HoldAnswers old asked new next =
    (IsFirstHolder (λ held. StandsAgainst held asked) old.held None × (new ≡ record old { held = old.held ++ (asked ∷ []) }) × (next ≡ nexts.Answer 201 (codes "{}")))
    ⊎ (((holder : Holder) × IsFirstHolder (λ held. StandsAgainst held asked) old.held (Some holder)) × (new ≡ old) × IsRefusal 409 next)

abbrev pub FreeAnswers : Desk → Dsn → Holder → Desk → Next → Type 0
FreeAnswers old name holder new next =
    ((held : List Hold) × Releases name holder old.held held × (new ≡ record old { held = held }) × (next ≡ nexts.Answer 204 []))
    ⊎ (All (λ held. ¬ Has name holder held) old.held × (new ≡ old) × IsRefusal 404 next)

-- What a request does, and what comes next. A run is only asked for here: what it leaves is said by `Ends`.
abbrev pub Answers : Desk → Request → Desk → Next → Type 0
Answers old (requests.Post key text) new next = PostAnswers old key text (job_of key old.jobs) new next
Answers old (requests.Run key) new next = (new ≡ old) × RunAnswers old.broken (job_of key old.jobs) next
Answers old (requests.Get key) new next = (new ≡ old) × GetAnswers (job_of key old.jobs) next
Answers old requests.List new next = (new ≡ old) × IsAnswer 200 (jobs_value old.jobs) next
Answers old (requests.Volume serial) new next = (new ≡ old) × VolumeAnswers (line_of serial old.lines) next
Answers old (requests.Hold name mode holder) new next = HoldAnswers old (record { name = name; mode = mode; holder = holder }) new next
Answers old (requests.Free name holder) new next = FreeAnswers old name holder new next

-- a request is lawful
abbrev pub IsLawful : Request → Type 0
IsLawful (requests.Hold name mode holder) = IsDsn name × IsHolder holder
IsLawful _ = Unit {0}

-- where a run is asked for, nothing changed, the job is queued, and no run broke the pool
abbrev pub RunsQueued : Desk → Desk → Next → Type 0
RunsQueued old new (nexts.Run number) = IsQueued old.jobs number × (new ≡ old) × (old.broken ≡ None)
RunsQueued old new (nexts.Answer status body) = Unit {0}

-- an answer has one of the desk's statuses, and a body unless it is a 204
abbrev pub HasStatus : Next → Type 0
HasStatus (nexts.Answer status body) = IsDeskAnswer status body
HasStatus (nexts.Run number) = Unit {0}
