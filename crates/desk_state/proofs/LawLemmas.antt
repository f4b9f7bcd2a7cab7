-- What each event keeps.
use Rattle.std.proofs.Common.{◌≡◌, ◌⊎◌, inl, inr, ℕ, zero, suc, ◌+◌, ◌-◌, ◌<◌, List, [], ◌∷◌, ◌++◌, length, get_or, Option, Some, None, refl, sym, ap, subst, ◌∙◌, arith}
use Rattle.std.specs.Prelude.{slice_get, slice_set}
use Rattle.std.proofs.lemmas.Option.{none-some}
use Rattle.desk_text.specs.declared.job.Job.{Job}
use Rattle.desk_text.specs.declared.job.UnitLine.{UnitLine}
use Rattle.desk_state.specs.declared.desk.Desk.{Desk}
use Rattle.desk_state.specs.declared.request.Request.{Request}
use Rattle.desk_state.specs.declared.request.Request.TheVariants as requests
use Rattle.desk_state.specs.declared.request.Next.{Next}
use Rattle.desk_state.specs.Answers.{job_of, line_of}
use Rattle.std.specs.Prelude.{find, Bool, true, false, cond}
use Rattle.std.specs.Str.{bytes_eq}
use Rattle.desk_state.specs.declared.request.Next.TheVariants as nexts
use Rattle.desk_state.specs.Answers.{RunAnswers, GetAnswers, VolumeAnswers, RunAnswersBy}
use Rattle.dsn_filter.specs.declared.dsn.Dsn.{Dsn}
use Rattle.enq_table.specs.declared.holder.Holder.{Holder}
use Rattle.enq_table.specs.declared.hold.Hold.{Hold}
use Rattle.desk_text.specs.declared.job.VolumeNumbers.{VolumeNumbers}
use Rattle.desk_state.specs.Desks.{Answers, PostAnswers, HoldAnswers, FreeAnswers, posted, with_job, RunsQueued, HasStatus}
use Rattle.desk_text.specs.Answers.{IsDeskAnswer}
use Rattle.desk_state.specs.Ends.{with_end, with_numbers, units_of, IsQueued, AreNumbered, AreNumberedFrom, IsRunCode, IsJobCode, IsEndCode, AreCoded}
use Rattle.desk_state.specs.Laws.{Event, asked, ran, broke, ended_desk, broken_desk, Happens, Lives, KeepsEnded}

pub set_end : (jobs : List Job) (place : ℕ) (d : Job) (code : ℕ) (print : List ℕ) → place < length jobs
    → slice_set jobs place (record (get_or jobs place d) { ended = Some (code, print) }) ≡ with_end jobs place code print
set_end [] place d code print less = absurd (omega arith)
set_end (job ∷ jobs) zero d code print less = refl
set_end (job ∷ jobs) (suc place) d code print less = ap (λ (l : List Job). job ∷ l) (set_end jobs place d code print (omega arith))

pub numbered_end : (n : ℕ) (jobs : List Job) (place code : ℕ) (print : List ℕ) → AreNumberedFrom n jobs → AreNumberedFrom n (with_end jobs place code print)
numbered_end n [] place code print h = tt
numbered_end n (job ∷ jobs) zero code print h = h
numbered_end n (job ∷ jobs) (suc place) code print h = (h.0, numbered_end (n + 1) jobs place code print h.1)

numbered_push : (n : ℕ) (jobs : List Job) (job : Job) → AreNumberedFrom n jobs → job.number ≡ n + length jobs → AreNumberedFrom n (jobs ++ job ∷ [])
numbered_push n [] job h is = (omega arith, tt)
numbered_push n (first ∷ jobs) job h is = (h.0, numbered_push (n + 1) jobs job h.1 (omega arith))

kept_end : (jobs : List Job) (place code : ℕ) (print : List ℕ) (queued : Job) → slice_get jobs place ≡ Some queued → queued.ended ≡ None → KeepsEnded jobs (with_end jobs place code print)
kept_end [] place code print queued there is p job at some = at
kept_end (j ∷ jobs) zero code print queued there is zero job at some = absurd (some (let same : queued ≡ job = cc in sym (ap (λ (x : Job). x.ended) same) ∙ is))
kept_end (j ∷ jobs) zero code print queued there is (suc p) job at some = at
kept_end (j ∷ jobs) (suc place) code print queued there is zero job at some = at
kept_end (j ∷ jobs) (suc place) code print queued there is (suc p) job at some = kept_end jobs place code print queued there is p job at some

kept_push : (jobs : List Job) (new : Job) → KeepsEnded jobs (jobs ++ new ∷ [])
kept_push [] new p job at some = absurd (none-some job at)
kept_push (j ∷ jobs) new zero job at some = at
kept_push (j ∷ jobs) new (suc p) job at some = kept_push jobs new p job at some

coded_push : (jobs : List Job) (new : Job) → AreCoded jobs → new.ended ≡ None → AreCoded (jobs ++ new ∷ [])
coded_push [] new h is = (subst IsEndCode (sym is) tt, tt)
coded_push (job ∷ jobs) new h is = (h.0, coded_push jobs new h.1 is)

coded_end : (jobs : List Job) (place code : ℕ) (print : List ℕ) → IsJobCode code → AreCoded jobs → AreCoded (with_end jobs place code print)
coded_end [] place code print right h = tt
coded_end (job ∷ jobs) zero code print right h = (right, h.1)
coded_end (job ∷ jobs) (suc place) code print right h = (h.0, coded_end jobs place code print right h.1)

pub job_code : (code : ℕ) → IsRunCode code → IsJobCode code
job_code code h = grind arith

pub set_numbers : (lines : List UnitLine) (place : ℕ) (d : UnitLine) (online : Option VolumeNumbers) → place < length lines
    → slice_set lines place (record (get_or lines place d) { online = online }) ≡ with_numbers lines place online
set_numbers [] place d online less = absurd (omega arith)
set_numbers (line ∷ lines) zero d online less = refl
set_numbers (line ∷ lines) (suc place) d online less = ap (λ (l : List UnitLine). line ∷ l) (set_numbers lines place d online (omega arith))

pub units_set : (lines : List UnitLine) (place : ℕ) (online : Option VolumeNumbers) → units_of (with_numbers lines place online) ≡ units_of lines
units_set [] place online = refl
units_set (line ∷ lines) zero online = refl
units_set (line ∷ lines) (suc place) online = ap (λ (l : List (List ℕ)). line.serial ∷ l) (units_set lines place online)

-- what is kept by an event
pub record Keeps (old new : Desk) : Type 0 where
  pub numbered : AreNumbered old.jobs → AreNumbered new.jobs
  pub ended : KeepsEnded old.jobs new.jobs
  pub coded : AreCoded old.jobs → AreCoded new.jobs
  pub units : units_of new.lines ≡ units_of old.lines
  pub broken : (number : ℕ) → old.broken ≡ Some number → new.broken ≡ Some number

same_desk : (old : Desk) → Keeps old old
same_desk old = record { numbered = λ h. h; ended = λ place job at some. at; coded = λ h. h; units = refl; broken = λ number is. is }

kept_as : (old mid new : Desk) → new ≡ mid → Keeps old mid → Keeps old new
kept_as old mid new same kept = subst (λ (d : Desk). Keeps old d) (sym same) kept

kept_same : (old new : Desk) → new ≡ old → Keeps old new
kept_same old new same = kept_as old old new same (same_desk old)

kept_posted : (old : Desk) (key text : List ℕ) → Keeps old (with_job old (posted (length old.jobs + 1) key text))
kept_posted old key text = record {
  numbered = λ h. numbered_push 1 old.jobs (posted (length old.jobs + 1) key text) h (omega arith);
  ended = kept_push old.jobs (posted (length old.jobs + 1) key text);
  coded = λ h. coded_push old.jobs (posted (length old.jobs + 1) key text) h refl;
  units = refl;
  broken = λ number is. is;
}

post_keeps : (old new : Desk) (key text : List ℕ) (next : Next) (found : Option Job) → PostAnswers old key text found new next → Keeps old new
post_keeps old new key text next None (inl h) = kept_same old new h.1
post_keeps old new key text next None (inr h) = kept_as old (with_job old (posted (length old.jobs + 1) key text)) new h.1 (kept_posted old key text)
post_keeps old new key text next (Some job) h = kept_same old new h.0

kept_held : (old : Desk) (held : List Hold) → Keeps old (record old { held = held })
kept_held old held = record { numbered = λ h. h; ended = λ place job at some. at; coded = λ h. h; units = refl; broken = λ number is. is }

hold_keeps : (old new : Desk) (wanted : Hold) (next : Next) → HoldAnswers old wanted new next → Keeps old new
hold_keeps old new wanted next (inl h) = kept_as old (record old { held = old.held ++ wanted ∷ [] }) new h.1 (kept_held old (old.held ++ wanted ∷ []))
hold_keeps old new wanted next (inr h) = kept_same old new h.1

free_keeps : (old new : Desk) (name : Dsn) (holder : Holder) (next : Next) → FreeAnswers old name holder new next → Keeps old new
free_keeps old new name holder next (inl h) = kept_as old (record old { held = h.0 }) new h.2 (kept_held old h.0)
free_keeps old new name holder next (inr h) = kept_same old new h.1

pub answers_keep : (old new : Desk) (request : Request) (next : Next) → Answers old request new next → Keeps old new
answers_keep old new (requests.Post key text) next h = post_keeps old new key text next (job_of key old.jobs) h
answers_keep old new (requests.Run key) next h = kept_same old new h.0
answers_keep old new (requests.Get key) next h = kept_same old new h.0
answers_keep old new requests.List next h = kept_same old new h.0
answers_keep old new (requests.Volume serial) next h = kept_same old new h.0
answers_keep old new (requests.Hold name mode holder) next h = hold_keeps old new (record { name = name; mode = mode; holder = holder }) next h
answers_keep old new (requests.Free name holder) next h = free_keeps old new name holder next h

ran_keeps : (old : Desk) (number code : ℕ) (print : List ℕ) (lines : List UnitLine) → IsQueued old.jobs number → IsRunCode code → units_of lines ≡ units_of old.lines → Keeps old (ended_desk old number code print lines)
ran_keeps old number code print lines q right units = record {
  numbered = numbered_end 1 old.jobs (number - 1) code print;
  ended = kept_end old.jobs (number - 1) code print q.job q.there q.queued;
  coded = coded_end old.jobs (number - 1) code print (job_code code right);
  units = units;
  broken = λ n is. is;
}

broke_keeps : (old : Desk) (number : ℕ) (print : List ℕ) → IsQueued old.jobs number → old.broken ≡ None → Keeps old (broken_desk old number print)
broke_keeps old number print q whole = record {
  numbered = numbered_end 1 old.jobs (number - 1) 16 print;
  ended = kept_end old.jobs (number - 1) 16 print q.job q.there q.queued;
  coded = coded_end old.jobs (number - 1) 16 print refl;
  units = refl;
  broken = λ n is. absurd (none-some n (sym whole ∙ is));
}

event_keeps : (old new : Desk) (event : Event) → Happens old event new → Keeps old new
event_keeps old new (asked request next) h = answers_keep old new request next h
event_keeps old new (ran number code print lines) h = kept_as old (ended_desk old number code print lines) new h.4 (ran_keeps old number code print lines h.0 h.2 h.3)
event_keeps old new (broke number print) h = kept_as old (broken_desk old number print) new h.2 (broke_keeps old number print h.0 h.1)

pub life_keeps : (old new : Desk) (events : List Event) → Lives old events new → Keeps old new
life_keeps old new [] h = kept_same old new h
life_keeps old new (event ∷ events) h =
    let first = event_keeps old h.0 event h.1 in
    let rest = life_keeps h.0 new events h.2 in
    record {
      numbered = λ n. rest.numbered (first.numbered n);
      ended = λ place job at some. rest.ended place job (first.ended place job at some) some;
      coded = λ n. rest.coded (first.coded n);
      units = rest.units ∙ first.units;
      broken = λ number is. rest.broken number (first.broken number is);
    }

-- ---- a run that is asked for is that of a queued job

-- a job that was found has its place
record HasPlace (n : ℕ) (jobs : List Job) (job : Job) : Type 0 where
  place : ℕ
  there : slice_get jobs place ≡ Some job
  number : job.number ≡ n + place

one_found : (b : Bool) (first job : Job) (rest : Option Job) → cond b (Some first) rest ≡ Some job → (first ≡ job) ⊎ (rest ≡ Some job)
one_found true first job rest is = inl (cc)
one_found false first job rest is = inr is

later_place : (n : ℕ) (first : Job) (jobs : List Job) (job : Job) → HasPlace (n + 1) jobs job → HasPlace n (first ∷ jobs) job
later_place n first jobs job h = record { place = suc h.place; there = h.there; number = omega (arith, h.number) }

first_place : (n : ℕ) (first : Job) (jobs : List Job) (job : Job) → first.number ≡ n → first ≡ job → HasPlace n (first ∷ jobs) job
first_place n first jobs job is same = record { place = 0; there = ap Some same; number = omega (arith, ap (λ (j : Job). j.number) same, is) }

found_place : (p : Job → Bool) (n : ℕ) (jobs : List Job) (job : Job) → AreNumberedFrom n jobs → find p jobs ≡ Some job → HasPlace n jobs job
found_place p n [] job numbered is = absurd (none-some job is)
found_place p n (first ∷ jobs) job numbered is =
    elim (one_found (p first) first job (find p jobs) is) [
      | inl same ↦ first_place n first jobs job numbered.0 same
      | inr later ↦ later_place n first jobs job (found_place p (n + 1) jobs job numbered.1 later)
    ]

queued_at : (jobs : List Job) (job : Job) (number : ℕ) → HasPlace 1 jobs job → job.ended ≡ None → nexts.Run number ≡ nexts.Run job.number → IsQueued jobs number
queued_at jobs job number h queued is =
    let same : number ≡ job.number = cc in
    record {
      first = omega (arith, h.number, same);
      job = job;
      there = ap (λ (n : ℕ). slice_get jobs n) (omega (arith, h.number, same)) ∙ h.there;
      queued = queued;
    }

run_of_queued : (old new : Desk) (key : List ℕ) (next : Next) (broken : Option ℕ) (found : Option Job) → AreNumbered old.jobs → job_of key old.jobs ≡ found → old.broken ≡ broken → new ≡ old → RunAnswers broken found next → RunsQueued old new next
run_of_queued old new key (nexts.Answer status body) broken found numbered is was same h = tt
run_of_queued old new key (nexts.Run number) broken None numbered is was same h = absurd (let differ : nexts.Run number ≡ nexts.Answer 404 _ = h in cc)
run_of_queued old new key (nexts.Run number) broken (Some job) numbered is was same h = by_end old new key number broken job job.ended refl numbered is was same h
  where
    by_end : (old new : Desk) (key : List ℕ) (number : ℕ) (broken : Option ℕ) (job : Job) (ended : Option (ℕ × List ℕ)) → job.ended ≡ ended → AreNumbered old.jobs → job_of key old.jobs ≡ Some job → old.broken ≡ broken → new ≡ old
        → RunAnswersBy broken job ended (nexts.Run number) → RunsQueued old new (nexts.Run number)
    by_end old new key number broken job (Some ended) state numbered is was same h = absurd (let differ : nexts.Run number ≡ nexts.Answer 200 _ = h in cc)
    by_end old new key number (Some other) job None state numbered is was same h = absurd (let differ : nexts.Run number ≡ nexts.Answer 503 _ = h in cc)
    by_end old new key number None job None state numbered is was same h =
        (queued_at old.jobs job number (found_place (λ (j : Job). bytes_eq j.key key) 1 old.jobs job numbered is) state h, same, was)

not_run : (old new : Desk) (next : Next) (status : ℕ) (body : List ℕ) → next ≡ nexts.Answer status body → RunsQueued old new next
not_run old new next status body is = subst (λ (n : Next). RunsQueued old new n) (sym is) tt

get_not_run : (old new : Desk) (next : Next) (found : Option Job) → GetAnswers found next → RunsQueued old new next
get_not_run old new next None h = not_run old new next _ _ h
get_not_run old new next (Some job) h = not_run old new next _ _ h

volume_not_run : (old new : Desk) (next : Next) (found : Option UnitLine) → VolumeAnswers found next → RunsQueued old new next
volume_not_run old new next None h = not_run old new next _ _ h
volume_not_run old new next (Some line) h = not_run old new next _ _ h

post_not_run : (old new : Desk) (key text : List ℕ) (next : Next) (found : Option Job) → PostAnswers old key text found new next → RunsQueued old new next
post_not_run old new key text next None (inl h) = not_run old new next _ _ h.2
post_not_run old new key text next None (inr h) = not_run old new next _ _ h.2
post_not_run old new key text next (Some job) (same, (inl h)) = not_run old new next _ _ h.1
post_not_run old new key text next (Some job) (same, (inr h)) = not_run old new next _ _ h.1

pub asks_queued : (old new : Desk) (request : Request) (next : Next) → AreNumbered old.jobs → Answers old request new next → RunsQueued old new next
asks_queued old new (requests.Post key text) next numbered h = post_not_run old new key text next (job_of key old.jobs) h
asks_queued old new (requests.Run key) next numbered h = run_of_queued old new key next old.broken (job_of key old.jobs) numbered refl refl h.0 h.1
asks_queued old new (requests.Get key) next numbered h = get_not_run old new next (job_of key old.jobs) h.1
asks_queued old new requests.List next numbered h = not_run old new next _ _ h.1
asks_queued old new (requests.Volume serial) next numbered h = volume_not_run old new next (line_of serial old.lines) h.1
asks_queued old new (requests.Hold name mode holder) next numbered (inl h) = not_run old new next _ _ h.2
asks_queued old new (requests.Hold name mode holder) next numbered (inr h) = not_run old new next _ _ h.2
asks_queued old new (requests.Free name holder) next numbered (inl h) = not_run old new next _ _ h.3
asks_queued old new (requests.Free name holder) next numbered (inr h) = not_run old new next _ _ h.2

-- ---- statuses

has_status : (old new : Desk) (next : Next) (status : ℕ) (body : List ℕ) → IsDeskAnswer status body → next ≡ nexts.Answer status body → HasStatus next
has_status old new next status body here is = subst HasStatus (sym is) here

get_status : (old new : Desk) (next : Next) (found : Option Job) → GetAnswers found next → HasStatus next
get_status old new next None h = has_status old new next _ _ (refl, refl) h
get_status old new next (Some job) h = has_status old new next _ _ (refl, refl) h

volume_status : (old new : Desk) (next : Next) (found : Option UnitLine) → VolumeAnswers found next → HasStatus next
volume_status old new next None h = has_status old new next _ _ (refl, refl) h
volume_status old new next (Some line) h = has_status old new next _ _ (refl, refl) h

post_status : (old new : Desk) (key text : List ℕ) (next : Next) (found : Option Job) → PostAnswers old key text found new next → HasStatus next
post_status old new key text next None (inl h) = has_status old new next _ _ (refl, refl) h.2
post_status old new key text next None (inr h) = has_status old new next _ _ (refl, refl) h.2
post_status old new key text next (Some job) (same, (inl h)) = has_status old new next _ _ (refl, refl) h.1
post_status old new key text next (Some job) (same, (inr h)) = has_status old new next _ _ (refl, refl) h.1

run_status : (old new : Desk) (next : Next) (broken : Option ℕ) (found : Option Job) → RunAnswers broken found next → HasStatus next
run_status old new next broken None h = has_status old new next _ _ (refl, refl) h
run_status old new next broken (Some job) h = by_end old new next broken job job.ended h
  where
    by_end : (old new : Desk) (next : Next) (broken : Option ℕ) (job : Job) (ended : Option (ℕ × List ℕ)) → RunAnswersBy broken job ended next → HasStatus next
    by_end old new next broken job (Some ended) h = has_status old new next _ _ (refl, refl) h
    by_end old new next (Some other) job None h = has_status old new next _ _ (refl, refl) h
    by_end old new next None job None h = subst HasStatus (sym h) tt

pub asks_status : (old new : Desk) (request : Request) (next : Next) → AreNumbered old.jobs → Answers old request new next → HasStatus next
asks_status old new (requests.Post key text) next numbered h = post_status old new key text next (job_of key old.jobs) h
asks_status old new (requests.Run key) next numbered h = run_status old new next old.broken (job_of key old.jobs) h.1
asks_status old new (requests.Get key) next numbered h = get_status old new next (job_of key old.jobs) h.1
asks_status old new requests.List next numbered h = has_status old new next _ _ (refl, refl) h.1
asks_status old new (requests.Volume serial) next numbered h = volume_status old new next (line_of serial old.lines) h.1
asks_status old new (requests.Hold name mode holder) next numbered (inl h) = has_status old new next _ _ (refl, refl) h.2
asks_status old new (requests.Hold name mode holder) next numbered (inr h) = has_status old new next _ _ (refl, refl) h.2
asks_status old new (requests.Free name holder) next numbered (inl h) = has_status old new next _ _ (refl, refl) h.3
asks_status old new (requests.Free name holder) next numbered (inr h) = has_status old new next _ _ (refl, refl) h.2
