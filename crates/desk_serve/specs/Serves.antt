-- What a request does to a desk and its session, and what is said.
use Rattle.std.specs.Prelude.{◌≡◌, ◌≢◌, ◌⊎◌, ℕ, ◌-◌, List, Option, Some, None, slice_get, IsSome, IfSome, Err}
use Rattle.dasd_pool.specs.Count.{Rose}
use Rattle.dasd_pool.specs.Stream.{Appends, AppendsSome}
use Rattle.serde_json.specs.Written.{compact_text}
use Rattle.enq_table.specs.declared.hold.Hold.{Hold}
use Rattle.desk_text.specs.declared.job.Job.{Job}
use Rattle.desk_text.specs.Values.{error_value, job_value}
use Rattle.desk_text.specs.Answers.{answer_text}
use Rattle.desk_state.specs.declared.desk.Desk.{Desk}
use Rattle.desk_state.specs.declared.request.Request.{Request}
use Rattle.desk_state.specs.declared.request.Next.TheVariants as nexts
use Rattle.desk_state.specs.Desks.{Answers}
use Rattle.desk_state.specs.Ends.{IsQueued, IsRunCode, units_of}
use Rattle.desk_state.specs.Laws.{Event, Lives, ended_desk, broken_desk}
use Rattle.desk_text.specs.declared.job.UnitLine.{UnitLine}
use Rattle.desk_serve.specs.declared.runner.RunEnd.{RunEnd}
use Rattle.desk_serve.specs.declared.runner.RunEnd.TheVariants as ends
use Rattle.desk_head.specs.declared.fault.RequestFault.{RequestFault}
use Rattle.desk_head.specs.declared.fault.RequestFault.TheVariants as faults
use Rattle.desk_head.specs.Received.{TakesEnough}
use Rattle.desk_request.specs.Reads.{Reads, IsRead, WantsMore}
use Rattle.desk_serve.specs.Runs.{IsGoing, lines_shown}
use Rattle.desk_serve.specs.declared.settling.Said.{Said}
use Rattle.desk_serve.specs.declared.settling.Said.TheVariants as saids

-- the status and the body that are sent
abbrev pub status_said : Said → ℕ
status_said (saids.Body status body) = status
status_said (saids.Error status) = status

abbrev pub body_said : Said → List ℕ
body_said (saids.Body status body) = body
body_said (saids.Error status) = compact_text (error_value status)

-- the result of the job is said
abbrev pub SaysResult : Desk → ℕ → Said → Type 0
SaysResult desk number said = (job : Job) × (slice_get desk.jobs (number - 1) ≡ Some job) × (status_said said ≡ 200) × (body_said said ≡ compact_text (job_value job))

-- A run that ended is kept, its units are shown anew, and its result is said, unless it ended for want of memory or its result can't be made for that; one that
-- never started leaves all as it was; one in which the pool failed ends the job with 16 and is answered 500, and from then on the desk says so.
abbrev pub AfterRun : Desk → ℕ → RunEnd → List UnitLine → Desk → Said → Type 0
AfterRun old number (ends.Ended code print) lines new said =
    IsRunCode code × (units_of lines ≡ units_of old.lines) × (new ≡ ended_desk old number code print lines) × ((said ≡ saids.Error 507) ⊎ ((code ≢ 32) × SaysResult new number said))
AfterRun old number ends.NotStarted lines new said = (new ≡ old) × (said ≡ saids.Error 507)
AfterRun old number (ends.Broken print) lines new said = (new ≡ broken_desk old number print) × (said ≡ saids.Error 500)

-- a queued job is run by the session, which is lent to it
pub record RunsJob {S : Type 0} (runs : S → List ℕ → List Hold → Option S → RunEnd → Type 0) (shows : S → List UnitLine → List UnitLine)
    (old : Desk) (before : Option S) (number : ℕ) (new : Desk) (after : Option S) (said : Said) : Type 0 where
  pub session : S
  pub lent : before ≡ Some session
  pub job : Job
  pub there : slice_get old.jobs (number - 1) ≡ Some job
  pub end : RunEnd
  pub ran : runs session job.text old.held after end
  pub back : IsGoing end → IsSome after
  pub left : AfterRun old number end (lines_shown shows after old.lines) new said

-- a run was asked for, and made
abbrev pub Runs : {S : Type 0} → (S → List ℕ → List Hold → Option S → RunEnd → Type 0) → (S → List UnitLine → List UnitLine) → Desk → Option S → Request → Desk → Option S → Said → Type 0
Runs runs shows old before request new after said =
    (number : ℕ) × Answers old request old (nexts.Run number) × IsQueued old.jobs number × (old.broken ≡ None) × RunsJob runs shows old before number new after said

-- A request is answered as it stands, or memory is wanting and nothing changed, or a job is run.
abbrev pub Settles : {S : Type 0} → (S → List ℕ → List Hold → Option S → RunEnd → Type 0) → (S → List UnitLine → List UnitLine) → Desk → Option S → Request → Desk → Option S → Said → Type 0
Settles runs shows old before request new after said =
    (Answers old request new (nexts.Answer (status_said said) (body_said said)) × (after ≡ before))
    ⊎ ((new ≡ old) × (after ≡ before) × (said ≡ saids.Error 507))
    ⊎ Runs runs shows old before request new after said

-- an answer was sent; or a front of it, and the link's count rose
pub record Sends (before after : Option (List ℕ)) (was is : ℕ) (said : Said) (answer : Option ℕ) : Type 0 where
  pub some : AppendsSome before after (answer_text (status_said said) (body_said said))
  pub all : answer ≢ None → Appends before after (answer_text (status_said said) (body_said said))
  pub status : (answer ≡ Some (status_said said)) ⊎ ((answer ≡ None) × Rose was is)

-- what is said of a request that wasn't read
abbrev pub refusal_of : RequestFault → Option Said
refusal_of (faults.Status status) = Some (saids.Error status)
refusal_of faults.Read = None
refusal_of faults.NoMemory = Some (saids.Error 507)

-- it is sent; nothing where there is none
abbrev pub Refuses : Option (List ℕ) → Option (List ℕ) → ℕ → ℕ → Option Said → Option ℕ → Type 0
Refuses before after was is None answer = (after ≡ before) × (answer ≡ None)
Refuses before after was is (Some said) answer = Sends before after was is said answer

-- What was heard: a request, which was settled; an input that is refused; or memory was wanting.
abbrev pub Hears : {S : Type 0} → (S → List ℕ → List Hold → Option S → RunEnd → Type 0) → (S → List UnitLine → List UnitLine) → Option (List ℕ) → Desk → Option S → Desk → Option S → Said → Type 0
Hears runs shows left old before new after said =
    ((request : Request) × IsRead left request × Settles runs shows old before request new after said)
    ⊎ (((status : ℕ) × IfSome left (λ input. Reads input (Err status)) × (said ≡ saids.Error status)) × (new ≡ old) × (after ≡ before))
    ⊎ ((said ≡ saids.Error 507) × (new ≡ old) × (after ≡ before))

-- One connection: what was heard is answered; or a receive failed, and nothing changed and nothing was sent.
abbrev pub Serves : {S : Type 0} → (S → List ℕ → List Hold → Option S → RunEnd → Type 0) → (S → List UnitLine → List UnitLine) → Option (List ℕ) → Option (List ℕ) → Option (List ℕ) → ℕ → ℕ
    → Desk → Option S → Desk → Option S → Option ℕ → Type 0
Serves runs shows left taken sent was is old before new after answer =
    ((said : Said) × Hears runs shows left old before new after said × Sends taken sent was is said answer)
    ⊎ ((new ≡ old) × (after ≡ before) × (sent ≡ taken) × (answer ≡ None) × Rose was is)

-- No more is received than one receive brings past a request; or a receive failed, and nothing was sent.
abbrev pub ReceivesEnough : Option (List ℕ) → Option (List ℕ) → Option (List ℕ) → Option (List ℕ) → ℕ → ℕ → Option ℕ → Type 0
ReceivesEnough left rest taken sent was is answer = TakesEnough WantsMore left rest ⊎ ((sent ≡ taken) × (answer ≡ None) × Rose was is)

-- what happened to the desk is a piece of its life
abbrev pub LivesOn : Desk → Desk → Type 0
LivesOn old new = (events : List Event) × Lives old events new
