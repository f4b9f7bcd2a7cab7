-- A request has one answer, and leaves one desk.
use Rattle.std.proofs.Common.{◌≡◌, inl, inr, ℕ, ◌<◌, List, [], ◌∷◌, ◌++◌, length, take, drop, get_or, Option, Some, None, All, refl, sym, ap, subst, ◌∙◌, arith, length-append}
use Rattle.std.specs.Prelude.{AllPairs}
use Rattle.std.proofs.Math.Seq.{take-append_seam, drop-append_seam, get_or-append_seam}
use Rattle.std.proofs.lemmas.Bool.{cases_order}
use Rattle.dsn_filter.specs.declared.dsn.Dsn.{Dsn}
use Rattle.enq_table.specs.declared.holder.Holder.{Holder}
use Rattle.enq_table.specs.declared.hold.Hold.{Hold}
use Rattle.enq_table.specs.Table.{StandsAgainst, Has, IsFirstHolder, IsTable, Releases}
use Rattle.enq_table.proofs.Holders.{one_first}
use Rattle.desk_text.specs.declared.job.Job.{Job}
use Rattle.desk_text.specs.declared.job.UnitLine.{UnitLine}
use Rattle.desk_state.specs.declared.desk.Desk.{Desk}
use Rattle.desk_state.specs.declared.request.Request.{Request}
use Rattle.desk_state.specs.declared.request.Request.TheVariants as requests
use Rattle.desk_state.specs.declared.request.Next.{Next}
use Rattle.desk_state.specs.Answers.{job_of, line_of, GetAnswers, QueuedAnswers, RunAnswersBy, RunAnswers, VolumeAnswers}
use Rattle.desk_state.specs.Desks.{PostAnswers, HoldAnswers, FreeAnswers, Answers}

-- ---- what is let go

-- the hold that is taken out
abbrev out : (name : Dsn) (holder : Holder) (old new : List Hold) → Releases name holder old new → Hold
out name holder old new h = record { name = name; mode = h.mode; holder = holder }

has_at : (name : Dsn) (holder : Holder) (old new : List Hold) (h : Releases name holder old new) (d : Hold) → Has name holder (get_or old (length h.front) d)
has_at name holder old new h d =
    let is : get_or old (length h.front) d ≡ out name holder old new h = ap (λ (l : List Hold). get_or l (length h.front) d) h.before ∙ get_or-append_seam h.front (out name holder old new h) h.behind d in
    subst (λ (held : Hold). Has name holder held) (sym is) (refl, refl)

place_in : (name : Dsn) (holder : Holder) (old new : List Hold) (h : Releases name holder old new) → length h.front < length old
place_in name holder old new h = omega (arith, ap length h.before, length-append h.front (out name holder old new h ∷ h.behind))

-- a holder has a name once
twice : (table : List Hold) (i j : ℕ) (d : Hold) (name : Dsn) (holder : Holder) → AllPairs (λ held later. ¬ StandsAgainst held later) table → i < j → j < length table
    → Has name holder (get_or table i d) → Has name holder (get_or table j d) → ⊥
twice table i j d name holder apart lt within h k = apart i j d lt within (h.0 ∙ sym k.0, inl (h.1 ∙ sym k.1))

same_place : (name : Dsn) (holder : Holder) (old a b : List Hold) → IsTable old → (h : Releases name holder old a) (k : Releases name holder old b) → length h.front ≡ length k.front
same_place name holder old a b table h k =
    let d : Hold = out name holder old a h in
    elim (cases_order (length h.front) (length k.front)) [
      | inl same ↦ same
      | inr (inl below) ↦ absurd (twice old (length h.front) (length k.front) d name holder table.apart below (place_in name holder old b k) (has_at name holder old a h d) (has_at name holder old b k d))
      | inr (inr above) ↦ absurd (twice old (length k.front) (length h.front) d name holder table.apart above (place_in name holder old a h) (has_at name holder old b k d) (has_at name holder old a h d))
    ]

-- all but the one at a place
abbrev without : List Hold → ℕ → List Hold
without table place = take place table ++ drop 1 (drop place table)

left_by : (name : Dsn) (holder : Holder) (old new : List Hold) (h : Releases name holder old new) → new ≡ without old (length h.front)
left_by name holder old new h =
    let held : Hold = out name holder old new h in
    let front : take (length h.front) old ≡ h.front = ap (λ (l : List Hold). take (length h.front) l) h.before ∙ take-append_seam h.front (held ∷ h.behind) in
    let behind : drop 1 (drop (length h.front) old) ≡ h.behind =
    ap (λ (l : List Hold). drop 1 (drop (length h.front) l)) h.before ∙ ap (λ (l : List Hold). drop 1 l) (drop-append_seam h.front (held ∷ h.behind)) in
    h.after ∙ ap (λ (l : List Hold). l ++ h.behind) (sym front) ∙ ap (λ (l : List Hold). take (length h.front) old ++ l) (sym behind)

one_release : (name : Dsn) (holder : Holder) (old a b : List Hold) → IsTable old → Releases name holder old a → Releases name holder old b → a ≡ b
one_release name holder old a b table h k =
    left_by name holder old a h ∙ ap (λ (place : ℕ). without old place) (same_place name holder old a b table h k) ∙ sym (left_by name holder old b k)

not_there : (name : Dsn) (holder : Holder) (old new : List Hold) → Releases name holder old new → All (λ held. ¬ Has name holder held) old → ⊥
not_there name holder old new h none =
    none (length h.front) (out name holder old new h) (place_in name holder old new h) (has_at name holder old new h (out name holder old new h))

one_freeing : (old : Desk) (name : Dsn) (holder : Holder) (left right : Desk) (a b : Next) → IsTable old.held → FreeAnswers old name holder left a → FreeAnswers old name holder right b → (left ≡ right) × (a ≡ b)
one_freeing old name holder left right a b table (inl h) (inl k) =
    (h.2 ∙ ap (λ (t : List Hold). record old { held = t }) (one_release name holder old.held h.0 k.0 table h.1 k.1) ∙ sym k.2, h.3 ∙ sym k.3)
one_freeing old name holder left right a b table (inl h) (inr k) = absurd (not_there name holder old.held h.0 h.1 k.0)
one_freeing old name holder left right a b table (inr h) (inl k) = absurd (not_there name holder old.held k.0 k.1 h.0)
one_freeing old name holder left right a b table (inr h) (inr k) = (h.1 ∙ sym k.1, h.2 ∙ sym k.2)

-- ---- what is held, posted, run and looked at

held_or_not : (table : List Hold) (asked : Hold) (holder : Holder) → IsFirstHolder (λ held. StandsAgainst held asked) table None → IsFirstHolder (λ held. StandsAgainst held asked) table (Some holder) → ⊥
held_or_not table asked holder h k = let e : None ≡ Some holder = one_first (λ (held : Hold). StandsAgainst held asked) table None (Some holder) h k in cc

one_holding : (old : Desk) (asked : Hold) (left right : Desk) (a b : Next) → HoldAnswers old asked left a → HoldAnswers old asked right b → (left ≡ right) × (a ≡ b)
one_holding old asked left right a b (inl h) (inl k) = (h.1 ∙ sym k.1, h.2 ∙ sym k.2)
one_holding old asked left right a b (inl h) (inr k) = absurd (held_or_not old.held asked k.0.0 h.0 k.0.1)
one_holding old asked left right a b (inr h) (inl k) = absurd (held_or_not old.held asked h.0.0 k.0 h.0.1)
one_holding old asked left right a b (inr h) (inr k) = (h.1 ∙ sym k.1, h.2 ∙ sym k.2)

one_posting : (old : Desk) (key text : List ℕ) (found : Option Job) (left right : Desk) (a b : Next) → PostAnswers old key text found left a → PostAnswers old key text found right b → (left ≡ right) × (a ≡ b)
one_posting old key text None left right a b (inl h) (inl k) = (h.1 ∙ sym k.1, h.2 ∙ sym k.2)
one_posting old key text None left right a b (inl h) (inr k) = absurd (omega (arith, h.0, k.0))
one_posting old key text None left right a b (inr h) (inl k) = absurd (omega (arith, h.0, k.0))
one_posting old key text None left right a b (inr h) (inr k) = (h.1 ∙ sym k.1, h.2 ∙ sym k.2)
one_posting old key text (Some job) left right a b (h, inl x) (k, inl y) = (h ∙ sym k, x.1 ∙ sym y.1)
one_posting old key text (Some job) left right a b (h, inl x) (k, inr y) = absurd (y.0 x.0)
one_posting old key text (Some job) left right a b (h, inr x) (k, inl y) = absurd (x.0 y.0)
one_posting old key text (Some job) left right a b (h, inr x) (k, inr y) = (h ∙ sym k, x.1 ∙ sym y.1)

one_queued : (broken : Option ℕ) (job : Job) (a b : Next) → QueuedAnswers broken job a → QueuedAnswers broken job b → a ≡ b
one_queued None job a b h k = h ∙ sym k
one_queued (Some number) job a b h k = h ∙ sym k

one_run_by : (broken : Option ℕ) (job : Job) (ended : Option (ℕ × List ℕ)) (a b : Next) → RunAnswersBy broken job ended a → RunAnswersBy broken job ended b → a ≡ b
one_run_by broken job None a b h k = one_queued broken job a b h k
one_run_by broken job (Some ended) a b h k = h ∙ sym k

one_run : (broken : Option ℕ) (found : Option Job) (a b : Next) → RunAnswers broken found a → RunAnswers broken found b → a ≡ b
one_run broken None a b h k = h ∙ sym k
one_run broken (Some job) a b h k = one_run_by broken job job.ended a b h k

one_got : (found : Option Job) (a b : Next) → GetAnswers found a → GetAnswers found b → a ≡ b
one_got None a b h k = h ∙ sym k
one_got (Some job) a b h k = h ∙ sym k

one_volume : (found : Option UnitLine) (a b : Next) → VolumeAnswers found a → VolumeAnswers found b → a ≡ b
one_volume None a b h k = h ∙ sym k
one_volume (Some line) a b h k = h ∙ sym k

pub one_answer : (old : Desk) (request : Request) (left right : Desk) (a b : Next) → IsTable old.held → Answers old request left a → Answers old request right b → (left ≡ right) × (a ≡ b)
one_answer old (requests.Post key text) left right a b table h k = one_posting old key text (job_of key old.jobs) left right a b h k
one_answer old (requests.Run key) left right a b table h k = (h.0 ∙ sym k.0, one_run old.broken (job_of key old.jobs) a b h.1 k.1)
one_answer old (requests.Get key) left right a b table h k = (h.0 ∙ sym k.0, one_got (job_of key old.jobs) a b h.1 k.1)
one_answer old requests.List left right a b table h k = (h.0 ∙ sym k.0, h.1 ∙ sym k.1)
one_answer old (requests.Volume serial) left right a b table h k = (h.0 ∙ sym k.0, one_volume (line_of serial old.lines) a b h.1 k.1)
one_answer old (requests.Hold name mode holder) left right a b table h k = one_holding old (record { name = name; mode = mode; holder = holder }) left right a b h k
one_answer old (requests.Free name holder) left right a b table h k = one_freeing old name holder left right a b table h k
