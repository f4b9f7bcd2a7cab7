-- What holds of a run however it ended.
use Rattle.std.proofs.Common.{◌≡◌, ◌≢◌, inl, inr, ℕ, ◌≤◌, List, [], Option, None, refl, sym, ap, subst, ◌∙◌, arith}
use Rattle.dasd_pool.specs.Disk.{Runs}
use Rattle.dasd_pool.specs.declared.pool.Pool.{Ghosts}
use Rattle.dasd_pool.proofs.Moments.{runs_start}
use Rattle.redo_core.specs.declared.fault.JournalFault.{JournalFault}
use Rattle.redo_core.specs.declared.fault.JournalFault.TheVariants as faults
use Rattle.redo_core.specs.Opening.{of_opening}
use Rattle.redo_core.specs.Reading.{journal_of}
use Rattle.move_core.specs.declared.steps.Step.{Step}
use Rattle.move_core.specs.Facts.{shown}
use Rattle.move_core.specs.Runs.{IsRun}
use Rattle.move_core.proofs.Running.{run_idle, run_less}
use Rattle.run_lines.specs.declared.ending.RunEnd.{RunEnd}
use Rattle.run_lines.specs.declared.ending.RunEnd.TheVariants as ends
use Rattle.run_lines.specs.Endings.{status_of, end_of}
use Rattle.job_script.specs.Ends.{After}
use Rattle.job_script.specs.Runs.{HasRun, answers_of}
use Rattle.adr_top.specs.Asked.{AsksForJournal}
use Rattle.adr_top.specs.Ends.{Given, HasCode, StopsBefore, EndsBefore, EndsFormat, EndsReady, EndsRun}
use Rattle.adr_top.specs.Texts.{StopsTexts}
use Rattle.adr_top.proofs.Codes.{text_sets, end_small, answers_small}

-- ---- ends that differ

abbrev kind_of : RunEnd → ℕ
kind_of (ends.Whole code) = 0
kind_of (ends.Formatted units room) = 1
kind_of ends.Pool = 2
kind_of ends.Sink = 3
kind_of ends.Memory = 4
kind_of ends.Words = 5
kind_of ends.NotBuilt = 6
kind_of _ = 7

differ : {one other : RunEnd} → one ≡ other → kind_of one ≢ kind_of other → ⊥
differ {one} {other} same apart = apart (ap (λ (e : RunEnd). kind_of e) same)

no_whole_fault : (fault : JournalFault) (code : ℕ) → end_of fault ≢ ends.Whole code
no_whole_fault faults.Pool code is = differ is (λ k. omega (arith, k))
no_whole_fault (faults.BadJournal rule) code is = differ is (λ k. omega (arith, k))
no_whole_fault (faults.WrongUnit unit kept found) code is = differ is (λ k. omega (arith, k))
no_whole_fault (faults.JournalSmall need have) code is = differ is (λ k. omega (arith, k))
no_whole_fault faults.NoMemory code is = differ is (λ k. omega (arith, k))

module _ (given : Given) (end : RunEnd) where
  before_no_pool : StopsBefore given end → end ≢ ends.Pool
  before_no_pool stops is = elim stops [
    | inl words ↦ differ (sym words.0.0 ∙ is) (λ k. omega (arith, k))
    | inr later ↦ elim later [
      | inl make ↦ differ (sym make.0.0 ∙ is) (λ k. omega (arith, k))
      | inr last ↦ elim last [
        | inl memory ↦ differ (sym memory.0 ∙ is) (λ k. omega (arith, k))
        | inr texts ↦ subst (λ (e : RunEnd). StopsTexts texts.1 given.held given.sysin e) is texts.3
      ]
    ]
  ]

  before_no_whole : (code : ℕ) → StopsBefore given end → end ≢ ends.Whole code
  before_no_whole code stops is = elim stops [
    | inl words ↦ differ (sym words.0.0 ∙ is) (λ k. omega (arith, k))
    | inr later ↦ elim later [
      | inl make ↦ differ (sym make.0.0 ∙ is) (λ k. omega (arith, k))
      | inr last ↦ elim last [
        | inl memory ↦ differ (sym memory.0 ∙ is) (λ k. omega (arith, k))
        | inr texts ↦ subst (λ (e : RunEnd). StopsTexts texts.1 given.held given.sysin e) is texts.3
      ]
    ]
  ]

-- ---- codes

only_16 : (end : RunEnd) → HasCode end → status_of end ≡ 16 → end ≡ ends.Pool
only_16 (ends.Whole code) small is = absurd (omega (arith, small, is))
only_16 (ends.Formatted units room) small is = absurd (omega (arith, is))
only_16 ends.Pool small is = refl
only_16 (ends.BadJournal rule) small is = absurd (omega (arith, is))
only_16 (ends.WrongUnit unit kept found) small is = absurd (omega (arith, is))
only_16 (ends.JournalSmall need have) small is = absurd (omega (arith, is))
only_16 (ends.Source input) small is = absurd (omega (arith, is))
only_16 ends.Sink small is = absurd (omega (arith, is))
only_16 ends.Memory small is = absurd (omega (arith, is))
only_16 ends.Words small is = absurd (omega (arith, is))
only_16 (ends.Long input) small is = absurd (omega (arith, is))
only_16 (ends.Wrong input line column) small is = absurd (omega (arith, is))
only_16 ends.NotBuilt small is = absurd (omega (arith, is))

code_if : (end : RunEnd) → ((code : ℕ) → end ≡ ends.Whole code → code ≤ 12) → HasCode end
code_if (ends.Whole code) small = small code refl
code_if (ends.Formatted units room) small = tt
code_if ends.Pool small = tt
code_if (ends.BadJournal rule) small = tt
code_if (ends.WrongUnit unit kept found) small = tt
code_if (ends.JournalSmall need have) small = tt
code_if (ends.Source input) small = tt
code_if ends.Sink small = tt
code_if ends.Memory small = tt
code_if ends.Words small = tt
code_if (ends.Long input) small = tt
code_if (ends.Wrong input line column) small = tt
code_if ends.NotBuilt small = tt

-- ---- all of it

module _ {P : Type 0} (pools : Ghosts P) (given : Given) (pool : P) (left : After P) where
  format_no_whole : EndsFormat pools given pool left → (code : ℕ) → left.end ≢ ends.Whole code
  format_no_whole format code is = elim format.formats.made [
    | inl made ↦ elim made.line [
      | inl line ↦ differ (sym line.0 ∙ is) (λ k. omega (arith, k))
      | inr sink ↦ differ (sym sink.0 ∙ is) (λ k. omega (arith, k))
    ]
    | inr not ↦ no_whole_fault not.fault code (sym not.end_is ∙ is)
  ]

  ready_small : EndsReady pools given pool left → (code : ℕ) → left.end ≡ ends.Whole code → code ≤ 12
  ready_small ready code is = elim ready.how [
    | inl opens ↦ absurd (no_whole_fault opens.fault code (sym opens.end_is ∙ is))
    | inr text ↦ elim text.end_is [
      | inl wanted ↦
          let has = subst (λ (e : RunEnd). HasRun ready.plan text.ran text.under e) (sym wanted ∙ is) text.statements in
          let small = end_small (answers_of text.ran) ready.plan has.1.0 (text_sets ready.ready.ready.plan_is) (answers_small text.ran text.reports) has.1.1 in
          subst (λ (n : ℕ). n ≤ 12) (sym has.1.2) small
      | inr sink ↦ absurd (differ (sym sink.0 ∙ is) (λ k. omega (arith, k)))
    ]
  ]

  pub code_of_run : EndsRun pools given pool left → HasCode left.end
  code_of_run run = code_if left.end (λ code is. elim run [
    | inl before ↦ absurd (before_no_whole given left.end code before.why is)
    | inr later ↦ elim later [
      | inl format ↦ absurd (format_no_whole format code is)
      | inr ready ↦ ready_small ready code is
    ]
  ])

  pub shape_of_run : EndsRun pools given pool left → pools.shape left.pool ≡ pools.shape pool
  shape_of_run run = elim run [
    | inl before ↦ ap (λ (p : P). pools.shape p) before.same
    | inr later ↦ elim later [
      | inl format ↦ format.formats.shape
      | inr ready ↦ ready.run.shape
    ]
  ]

  before_run : EndsBefore pools given pool left → IsRun pools.tells (shown pools pool) (shown pools left.pool) (left.end ≢ ends.Pool) left.steps left.pending
  before_run before =
      subst (λ (p : P). IsRun pools.tells (shown pools pool) (shown pools p) (left.end ≢ ends.Pool) left.steps left.pending) (sym before.same)
      (subst (λ (l : List Step). IsRun pools.tells (shown pools pool) (shown pools pool) (left.end ≢ ends.Pool) l left.pending) (sym before.did.steps)
      (subst (λ (o : Option Step). IsRun pools.tells (shown pools pool) (shown pools pool) (left.end ≢ ends.Pool) [] o) (sym before.did.pending)
      (run_idle (before_no_pool given left.end before.why))))

  run_of : EndsRun pools given pool left → ¬ AsksForJournal given.words → IsRun pools.tells (shown pools pool) (shown pools left.pool) (left.end ≢ ends.Pool) left.steps left.pending
  run_of run not = elim run [
    | inl before ↦ before_run before
    | inr later ↦ elim later [
      | inl format ↦ absurd (not (format.volumes, format.asked.0, format.room, format.asked.1.0))
      | inr ready ↦ ready.run
    ]
  ]

  pub headline_of_run : EndsRun pools given pool left → ¬ AsksForJournal given.words
      → IsRun pools.tells (shown pools pool) (shown pools left.pool) (status_of left.end ≢ 16) left.steps left.pending
  headline_of_run run not =
      let is = run_of run not in
      run_less (λ other pool. other (ap (λ (e : RunEnd). status_of e) pool)) (λ other. is.cause (λ apart. other (λ sixteen. apart (only_16 left.end (code_of_run run) sixteen)))) is

  -- no more than the opening was written where nothing was done
  pub still_of_run : EndsRun pools given pool left → ¬ AsksForJournal given.words → pools.tells → left.steps ≡ [] → left.pending ≡ None
      → Runs (of_opening (journal_of (pools.shape pool)) (pools.disk pool).state.contents) (pools.disk pool) (pools.disk left.pool)
  still_of_run run not told empty never = elim run [
    | inl before ↦
        subst (λ (p : P). Runs (of_opening (journal_of (pools.shape pool)) (pools.disk pool).state.contents) (pools.disk pool) (pools.disk p)) (sym before.same)
        (runs_start (of_opening (journal_of (pools.shape pool)) (pools.disk pool).state.contents) (pools.disk pool))
    | inr later ↦ elim later [
      | inl format ↦ absurd (not (format.volumes, format.asked.0, format.room, format.asked.1.0))
      | inr ready ↦ elim ready.how [
        | inl opens ↦ opens.opening told
        | inr text ↦ text.still told empty never
      ]
    ]
  ]
