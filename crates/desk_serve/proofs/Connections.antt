-- What one connection comes to.
use Rattle.std.proofs.Common.{◌≡◌, inl, inr, ℕ, ◌≤◌, List, [], ◌∷◌, Option, Some, None, sym, subst}
use Rattle.dasd_pool.specs.Stream.{Appends, AppendsSome}
use Rattle.dasd_pool.proofs.Streams.{rose_since}
use Rattle.enq_table.specs.declared.hold.Hold.{Hold}
use Rattle.desk_state.specs.declared.desk.Desk.{Desk}
use Rattle.desk_text.specs.Answers.{answer_text}
use Rattle.desk_serve.specs.declared.runner.RunEnd.{RunEnd}
use Rattle.desk_serve.specs.declared.settling.Said.{Said}
use Rattle.std.proofs.Common.{refl, ◌∙◌, arith}
use Rattle.std.proofs.lemmas.Option.{none-some}
use Rattle.std.specs.Prelude.{IsTrue}
use Rattle.desk_head.specs.declared.fault.RequestFault.{RequestFault}
use Rattle.desk_head.specs.declared.fault.RequestFault.TheVariants as faults
use Rattle.desk_head.specs.Received.{TakesEnough, UnlessFailed}
use Rattle.desk_request.specs.Reads.{IsReadFault, IsStatusFault, WantsMore}
use Rattle.desk_text.specs.Answers.{IsDeskStatus, IsDeskAnswer}
use Rattle.desk_text.specs.declared.job.UnitLine.{UnitLine}
use Rattle.desk_text.specs.Values.{error_value}
use Rattle.serde_json.specs.Written.{compact_text}
use Rattle.std.specs.Prelude.{not, ◌||◌, ◌==◌, length}
use Rattle.std.proofs.lemmas.Bool.Decides.{nat_tests}
use Rattle.desk_serve.specs.declared.settling.Said.TheVariants as saids
use Rattle.desk_state.specs.declared.request.Request.{Request}
use Rattle.desk_state.specs.declared.request.Next.TheVariants as nexts
use Rattle.desk_state.specs.Ends.{IsQueued}
use Rattle.desk_state.specs.Laws.{asked, ran, broke}
use Rattle.desk_serve.specs.declared.runner.RunEnd.TheVariants as ends
use Rattle.desk_serve.specs.Runs.{lines_shown}
use Rattle.desk_serve.specs.Serves.{AfterRun, Settles, Hears, Sends, Serves, ReceivesEnough, Refuses, LivesOn, refusal_of, status_said, body_said}

sends_since : (taken mid sent : Option (List ℕ)) (was then' is : ℕ) (said : Said) (answer : Option ℕ) → mid ≡ taken → was ≤ then' → Sends mid sent then' is said answer → Sends taken sent was is said answer
sends_since taken mid sent was then' is said answer same later h = record {
  some = let P : Option (List ℕ) → Type 0 = λ t. AppendsSome t sent (answer_text (status_said said) (body_said said)) in subst P same h.some;
  all = λ told. let P : Option (List ℕ) → Type 0 = λ t. Appends t sent (answer_text (status_said said) (body_said said)) in subst P same (h.all told);
  status = elim h.status [ inl told ↦ inl told | inr failed ↦ inr (failed.0, rose_since was then' is later failed.1) ];
}

module _ {S : Type 0} (runs : S → List ℕ → List Hold → Option S → RunEnd → Type 0) (shows : S → List UnitLine → List UnitLine) where
  pub serves_by : (left taken mid sent : Option (List ℕ)) (was then' is : ℕ) (old d : Desk) (before s : Option S) (said : Said) (new : Desk) (after : Option S) (answer : Option ℕ)
      → Hears runs shows left old before d s said → new ≡ d → after ≡ s → mid ≡ taken → was ≤ then' → Sends mid sent then' is said answer → Serves runs shows left taken sent was is old before new after answer
  serves_by left taken mid sent was then' is old d before s said new after answer heard same_desk same_session same later sends =
      let first : Hears runs shows left old before new s said = subst (λ (x : Desk). Hears runs shows left old before x s said) (sym same_desk) heard in
      inl (said, subst (λ (x : Option S). Hears runs shows left old before new x said) (sym same_session) first, sends_since taken mid sent was then' is said answer same later sends)

  -- a request that wasn't read
  pub refused_by : (left taken mid sent : Option (List ℕ)) (was then' is : ℕ) (old : Desk) (before : Option S) (fault : RequestFault) (new : Desk) (after : Option S) (answer : Option ℕ)
      → IsReadFault left was then' fault → new ≡ old → after ≡ before → mid ≡ taken → was ≤ then' → then' ≤ is → Refuses mid sent then' is (refusal_of fault) answer → Serves runs shows left taken sent was is old before new after answer
  refused_by left taken mid sent was then' is old before (faults.Status status) new after answer why same_desk same_session same later more sends =
      serves_by left taken mid sent was then' is old old before before (saids.Error status) new after answer (inr (inl ((status, why, refl), refl, refl))) same_desk same_session same later sends
  refused_by left taken mid sent was then' is old before faults.Read new after answer why same_desk same_session same later more sends =
      inr (same_desk, same_session, sends.0 ∙ same, sends.1, λ below. omega (arith, why (omega (arith, below, more)), more))
  refused_by left taken mid sent was then' is old before faults.NoMemory new after answer why same_desk same_session same later more sends =
      serves_by left taken mid sent was then' is old old before before (saids.Error 507) new after answer (inr (inr (refl, refl, refl))) same_desk same_session same later sends

-- what is told leaves unread what was
pub enough_by : (left mid rest taken sent : Option (List ℕ)) (was is : ℕ) (answer : Option ℕ) → TakesEnough WantsMore left mid → rest ≡ mid → ReceivesEnough left rest taken sent was is answer
enough_by left mid rest taken sent was is answer enough same = let P : Option (List ℕ) → Type 0 = λ o. TakesEnough WantsMore left o in inl (subst P (sym same) enough)

pub enough_refused : (left between rest taken mid sent : Option (List ℕ)) (was then' is : ℕ) (fault : RequestFault) (answer : Option ℕ) → IsReadFault left was then' fault → UnlessFailed fault (TakesEnough WantsMore left between)
    → rest ≡ between → mid ≡ taken → then' ≤ is → Refuses mid sent then' is (refusal_of fault) answer → ReceivesEnough left rest taken sent was is answer
enough_refused left between rest taken mid sent was then' is (faults.Status status) answer why enough same silent more sends = enough_by left between rest taken sent was is answer enough same
enough_refused left between rest taken mid sent was then' is faults.Read answer why enough same silent more sends =
    inr (sends.0 ∙ silent, sends.1, λ below. omega (arith, why (omega (arith, below, more)), more))
enough_refused left between rest taken mid sent was then' is faults.NoMemory answer why enough same silent more sends = enough_by left between rest taken sent was is answer enough same

-- what a run leaves is a piece of the desk's life
lives_ran : (old : Desk) (number : ℕ) (end : RunEnd) (lines : List UnitLine) (new : Desk) (said : Said) → IsQueued old.jobs number → old.broken ≡ None → AfterRun old number end lines new said → LivesOn old new
lives_ran old number (ends.Ended code print) lines new said queued whole h = (ran number code print lines ∷ [], (new, (queued, whole, h.0, h.1, h.2), refl))
lives_ran old number ends.NotStarted lines new said queued whole h = ([], h.0)
lives_ran old number (ends.Broken print) lines new said queued whole h = (broke number print ∷ [], (new, (queued, whole, h.0), refl))

module _ {S : Type 0} (runs : S → List ℕ → List Hold → Option S → RunEnd → Type 0) (shows : S → List UnitLine → List UnitLine) where
  lives_settled : (old : Desk) (before : Option S) (request : Request) (new : Desk) (after : Option S) (said : Said) → Settles runs shows old before request new after said → LivesOn old new
  lives_settled old before request new after said (inl h) = (asked request (nexts.Answer (status_said said) (body_said said)) ∷ [], (new, h.0, refl))
  lives_settled old before request new after said (inr (inl h)) = ([], h.0)
  lives_settled old before request new after said (inr (inr h)) = lives_ran old h.0 h.4.end (lines_shown shows after old.lines) new said h.2 h.3 h.4.left

  lives_heard : (left : Option (List ℕ)) (old : Desk) (before : Option S) (new : Desk) (after : Option S) (said : Said) → Hears runs shows left old before new after said → LivesOn old new
  lives_heard left old before new after said (inl h) = lives_settled old before h.0 new after said h.2
  lives_heard left old before new after said (inr (inl h)) = ([], h.1)
  lives_heard left old before new after said (inr (inr h)) = ([], h.1)

  -- so is what a connection leaves
  pub lives_served : (left taken sent : Option (List ℕ)) (was is : ℕ) (old : Desk) (before : Option S) (new : Desk) (after : Option S) (answer : Option ℕ)
      → Serves runs shows left taken sent was is old before new after answer → LivesOn old new
  lives_served left taken sent was is old before new after answer (inl h) = lives_heard left old before new after h.0 h.1
  lives_served left taken sent was is old before new after answer (inr h) = ([], h.0)

-- the statuses of refusals are the desk's
desk_status : (status : ℕ) → IsStatusFault (faults.Status status) → IsDeskStatus status
desk_status status h = grind arith

has_body : (status : ℕ) (body : List ℕ) → IsStatusFault (faults.Status status) → IsTrue (not (status == 204) || (length body == 0))
has_body status body h = grind (arith, nat_tests)

pub said_status : (fault : RequestFault) (said : Said) → IsStatusFault fault → refusal_of fault ≡ Some said → IsDeskAnswer (status_said said) (body_said said)
said_status (faults.Status status) said h is = subst (λ (s : Said). IsDeskAnswer (status_said s) (body_said s)) (let same : saids.Error status ≡ said = cc in same) (desk_status status h, has_body status (compact_text (error_value status)) h)
said_status faults.Read said h is = absurd (none-some said is)
said_status faults.NoMemory said h is = subst (λ (s : Said). IsDeskAnswer (status_said s) (body_said s)) (let same : saids.Error 507 ≡ said = cc in same) (refl, refl)
