-- What a run that ended well did.
use Rattle.std.proofs.Common.{◌≡◌, ◌≢◌, inl, inr, ℕ, List, [], Option, sym, ap, subst, ◌∙◌, arith}
use Rattle.dasd_pool.specs.declared.pool.Pool.{Ghosts}
use Rattle.redo_core.specs.declared.fault.JournalFault.{JournalFault}
use Rattle.redo_core.specs.declared.fault.JournalFault.TheVariants as faults
use Rattle.move_core.specs.declared.steps.Step.{Step}
use Rattle.move_core.specs.Facts.{Shown}
use Rattle.move_core.specs.Steps.{Reaches}
use Rattle.move_core.specs.Runs.{IsRun}
use Rattle.move_core.specs.Stands.{IsSettled}
use Rattle.run_words.specs.declared.run.Run.{Run}
use Rattle.run_words.specs.declared.run.Run.TheVariants.{Jobs, Format}
use Rattle.run_words.proofs.OneRun as runs
use Rattle.run_lines.specs.declared.ending.RunEnd.{RunEnd}
use Rattle.run_lines.specs.declared.ending.RunEnd.TheVariants as ends
use Rattle.run_lines.specs.Endings.{status_of, end_of}
use Rattle.adr_top.specs.job_script.Ends.{After}
use Rattle.adr_top.specs.Asked.{AskFor, AsksForJournal}
use Rattle.adr_top.specs.Ends.{Given, StopsBefore, EndsRun}
use Rattle.adr_top.specs.Texts.{SourceSeen, StopsTexts}
use Rattle.rows_headline.specs.Made.{MakesNoJournal, IsMade, StaysSettled}

-- ---- what words ask for

-- words that ask for another run don't ask for a journal
pub no_journal : (words : List (List ℕ)) (run : Run) → AskFor words run → MakesNoJournal run → ¬ AsksForJournal words
no_journal words run asked other journal =
    let same : run ≡ Format journal.0 journal.1 journal.2 =
    runs.words_have_one_run words asked.0 journal.3.0 run (Format journal.0 journal.1 journal.2) asked.1 asked.2 journal.3.1 journal.3.2 in
    subst (λ (r : Run). MakesNoJournal r) same other

-- ---- ends with another status than 0

fault_status : (fault : JournalFault) → status_of (end_of fault) ≢ 0
fault_status faults.Pool is = omega (arith, is)
fault_status (faults.BadJournal rule) is = omega (arith, is)
fault_status (faults.WrongUnit unit kept found) is = omega (arith, is)
fault_status (faults.JournalSmall need have) is = omega (arith, is)
fault_status faults.NoMemory is = omega (arith, is)

texts_status : (path : Option (List ℕ)) (held sysin : SourceSeen) (end : RunEnd) → StopsTexts path held sysin end → status_of end ≢ 0
texts_status path held sysin (ends.Whole code) stops is = absurd stops
texts_status path held sysin (ends.Formatted units room) stops is = absurd stops
texts_status path held sysin ends.Pool stops is = absurd stops
texts_status path held sysin (ends.BadJournal rule) stops is = absurd stops
texts_status path held sysin (ends.WrongUnit unit kept found) stops is = absurd stops
texts_status path held sysin (ends.JournalSmall need have) stops is = absurd stops
texts_status path held sysin (ends.Source input) stops is = omega (arith, is)
texts_status path held sysin ends.Sink stops is = absurd stops
texts_status path held sysin ends.Memory stops is = omega (arith, is)
texts_status path held sysin ends.Words stops is = absurd stops
texts_status path held sysin (ends.Long input) stops is = omega (arith, is)
texts_status path held sysin (ends.Wrong input line column) stops is = omega (arith, is)
texts_status path held sysin ends.NotBuilt stops is = omega (arith, is)

before_status : (given : Given) (end : RunEnd) → StopsBefore given end → status_of end ≢ 0
before_status given end stops is = elim stops [
  | inl words ↦
      let status : status_of end ≡ 36 = ap (λ (e : RunEnd). status_of e) words.0.0 in
      omega (arith, is, status)
  | inr later ↦ elim later [
    | inl make ↦
        let status : status_of end ≡ 48 = ap (λ (e : RunEnd). status_of e) make.0.0 in
        omega (arith, is, status)
    | inr last ↦ elim last [
      | inl memory ↦
          let status : status_of end ≡ 32 = ap (λ (e : RunEnd). status_of e) memory.0 in
          omega (arith, is, status)
      | inr texts ↦ texts_status texts.1 given.held given.sysin end texts.3 is
    ]
  ]
]

-- ---- what was done

module _ {P : Type 0} (pools : Ghosts P) (given : Given) (pool : P) (left : After P) where
  -- words that ask for a journal, and a run that ended with 0
  pub is_made : AsksForJournal given.words → EndsRun pools given pool left → status_of left.end ≡ 0 → pools.tells
      → IsMade (pools.shape pool) (pools.disk pool).state (pools.disk left.pool).state
  is_made asked run zero told = elim run [
    | inl before ↦ absurd (before_status given left.end before.why zero)
    | inr later ↦ elim later [
      | inl format ↦ elim format.formats.made [
        | inl made ↦ record { names = _; room = _; allowed = made.allowed told; formatted = made.formatted told }
        | inr not ↦ absurd (fault_status not.fault (ap (λ (e : RunEnd). status_of e) (sym not.end_is) ∙ zero))
      ]
      | inr ready ↦
          let text = ready.ready.asked in
          absurd (no_journal given.words (Jobs ready.volumes text.0 text.1 ready.ready.path text.2 text.3) text.4.0 tt asked)
    ]
  ]

-- a run without a step
pub stays_settled : (tells : Type 0) (old new : Shown) (ended : Type 0) (steps : List Step) (pending : Option Step) → IsRun tells old new ended steps pending
    → tells → ended → steps ≡ [] → StaysSettled old.shape old.disk.state new.disk.state
stays_settled tells old new ended steps pending run told over none facts units same settled =
    let end = (run.keeps told facts same (tt {0}) units settled).settled over in
    let there : Reaches facts units [] end.units = subst (λ (list : List Step). Reaches facts units list end.units) none end.reached in
    subst (IsSettled facts new.disk.state) there end.settled
