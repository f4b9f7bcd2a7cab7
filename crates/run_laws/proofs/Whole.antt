-- Runs that nothing stands against end whole.
use Rattle.std.proofs.Common.{◌≡◌, ◌≢◌, ◌⊎◌, inl, inr, ℕ, ◌≤◌, ◌<◌, true, List, [], length, refl, sym, ap, subst, ◌∙◌, arith}
use Rattle.std.specs.Prelude.{Option, Some, None, IfSome}
use Rattle.dasd_pool.specs.declared.pool.Pool.{Ghosts}
use Rattle.enq_table.specs.HeldText.{lines_of, IsTextFault}
use Rattle.enq_table.proofs.Taking.{no_fault}
use Rattle.vol_label.specs.declared.serial.Serial.{Serial}
use Rattle.redo_core.specs.Faults.{IsOpenFault}
use Rattle.redo_core.proofs.Allowed.{only_faults}
use Rattle.run_words.specs.declared.run.Run.{Run}
use Rattle.run_words.specs.declared.run.Run.TheVariants.{Jobs, Format, Make}
use Rattle.run_words.proofs.OneRun as runs
use Rattle.sysin_text.specs.Tokens.{tokens_of}
use Rattle.sysin_lang.specs.Flow.{Plan}
use Rattle.sysin_lang.specs.declared.command.Statement.{Statement}
use Rattle.sysin_read.specs.declared.fault.SysinFault.TheVariants as faults
use Rattle.sysin_read.specs.Refusal.{IsRefusal}
use Rattle.sysin_read.specs.Statement.{IsText}
use Rattle.sysin_read.proofs.OneText.{one_text}
use Rattle.run_lines.specs.declared.ending.Input.TheVariants as inputs
use Rattle.run_lines.specs.declared.ending.RunEnd.{RunEnd}
use Rattle.run_lines.specs.declared.ending.RunEnd.TheVariants as ends
use Rattle.run_lines.specs.Endings.{end_of}
use Rattle.run_lines.specs.Texts.{most_bytes, IsTextOf}
use Rattle.adr_top.specs.job_script.Built.{AreBuilt}
use Rattle.adr_top.specs.job_script.Ends.{After}
use Rattle.adr_top.specs.job_script.Runs.{Ran, HasRun}
use Rattle.adr_top.specs.Asked.{AskFor, serials_of}
use Rattle.adr_top.specs.Ends.{Given, AsksText, StopsBefore, EndsReady, OpensNot, RunsText, EndsRun}
use Rattle.adr_top.specs.Texts.{SourceSeen, IsHeldText, IsLong, StopsTexts}
use Rattle.run_laws.proofs.Words.{kind_in, path_in, volumes_in}
use Rattle.run_laws.specs.Complete.{IsWellAsked, HasRightTexts, HasNoFault, OpensFor, RunsAreWhole}
use Rattle.sysin_read.proofs.OnePlace.{never_refused}

-- ---- texts

held_same : (path : Option (List ℕ)) (held : SourceSeen) (own text : List ℕ) → IsHeldText path held own → ((named : List ℕ) → path ≡ Some named → held.before ≡ Some own)
    → IsHeldText path held text → text ≡ own
held_same None held own text is told other = other ∙ sym is
held_same (Some named) held own text is told other = sym (subst (λ (o : Option (List ℕ)). IfSome o (λ bytes. bytes ≡ text)) (told named refl) other)

sysin_same : (sysin : SourceSeen) (own text : List ℕ) → sysin.before ≡ Some own → IsTextOf sysin.before text → text ≡ own
sysin_same sysin own text told other = sym (subst (λ (o : Option (List ℕ)). IfSome o (λ bytes. bytes ≡ text)) told other)

not_long : (source : SourceSeen) (text : List ℕ) → source.before ≡ Some text → length text ≤ most_bytes → ¬ IsLong source
not_long source text told short long =
    let longer : most_bytes < length text = subst (λ (o : Option (List ℕ)). IfSome o (λ bytes. most_bytes < length bytes)) told long in
    omega (arith, longer, short)

held_long : (path : Option (List ℕ)) (held : SourceSeen) (text : List ℕ) → ((named : List ℕ) → path ≡ Some named → held.before ≡ Some text) → length text ≤ most_bytes → path ≢ None
    → ¬ IsLong held
held_long None held text told short some = absurd (some refl)
held_long (Some named) held text told short some = not_long held text (told named refl) short

module _ {P : Type 0} (pools : Ghosts P) (given : Given) (pool : P) (left : After P) (well : IsWellAsked given) (right : HasRightTexts given well.path)
    (opens : OpensFor pools pool well.volumes) (none : HasNoFault pools given pool left) where
  same_run : (run : Run) → AskFor given.words run → run ≡ Jobs well.volumes well.asked.0 well.asked.1 well.path well.asked.2 well.asked.3
  same_run run other =
      runs.words_have_one_run given.words other.0 well.asked.4.0.0 run (Jobs well.volumes well.asked.0 well.asked.1 well.path well.asked.2 well.asked.3) other.1 other.2
      well.asked.4.0.1 well.asked.4.0.2

  no_format : (volumes : List (Serial × List ℕ)) (journal : List ℕ) (room : ℕ) → ¬ AskFor given.words (Format volumes journal room)
  no_format volumes journal room asked =
      let same : 1 ≡ 0 = ap (λ (r : Run). kind_in r) (same_run (Format volumes journal room) asked) in
      omega (arith, same)

  no_make : (number : ℕ) → ¬ AskFor given.words (Make number)
  no_make number asked =
      let same : 2 ≡ 0 = ap (λ (r : Run). kind_in r) (same_run (Make number) asked) in
      omega (arith, same)

  same_path : (volumes : List (Serial × List ℕ)) (path : Option (List ℕ)) → AsksText given volumes path → path ≡ well.path
  same_path volumes path asked = ap (λ (r : Run). path_in r) (same_run (Jobs volumes asked.0 asked.1 path asked.2 asked.3) asked.4.0)

  same_volumes : (volumes : List (Serial × List ℕ)) (path : Option (List ℕ)) → AsksText given volumes path → volumes ≡ well.volumes
  same_volumes volumes path asked = ap (λ (r : Run). volumes_in r) (same_run (Jobs volumes asked.0 asked.1 path asked.2 asked.3) asked.4.0)

  held_is : (text : List ℕ) → IsHeldText well.path given.held text → text ≡ right.texts.held
  held_is text other = held_same well.path given.held right.texts.held text right.ready.read.held_is right.told_held other

  sysin_is : (text : List ℕ) → IsTextOf given.sysin.before text → text ≡ right.texts.sysin
  sysin_is text other = sysin_same given.sysin right.texts.sysin text right.told_sysin other

  -- ---- the texts are ready

  abbrev Stops : RunEnd → Type 0
  Stops end = StopsTexts well.path given.held given.sysin end

  only_memory : (end : RunEnd) → Stops end → end ≡ ends.Memory
  only_memory (ends.Source inputs.Held) stops = absurd (none.held stops.1)
  only_memory (ends.Long inputs.Held) stops = absurd (held_long well.path given.held right.texts.held right.told_held right.ready.read.held_short stops.0 stops.1)
  only_memory (ends.Source inputs.Sysin) stops = absurd (none.sysin stops.1)
  only_memory (ends.Long inputs.Sysin) stops = absurd (not_long given.sysin right.texts.sysin right.told_sysin right.ready.read.sysin_short stops.1)
  only_memory (ends.Wrong inputs.Held line column) stops =
      absurd (no_fault [] (lines_of right.texts.held) right.table line column right.ready.table_is
      (subst (λ (t : List ℕ). IsTextFault [] (lines_of t) line column) (held_is stops.0.held stops.1.held_is) stops.2))
  only_memory (ends.Wrong inputs.Sysin line column) stops =
      absurd (never_refused right.plan (tokens_of right.texts.sysin) line column stops.2 right.ready.plan_is
      (subst (λ (t : List ℕ). IsRefusal (tokens_of t) (faults.BadStatement line column stops.2)) (sysin_is stops.0.sysin stops.3.sysin_is) stops.5))
  only_memory ends.NotBuilt stops =
      let text = subst (λ (t : List ℕ). IsText true stops.2 (tokens_of t)) (sysin_is stops.0.sysin stops.3.sysin_is) stops.5 in
      absurd (stops.6 (subst AreBuilt (one_text right.plan stops.2 (tokens_of right.texts.sysin) right.ready.plan_is text) right.ready.built))
  only_memory ends.Memory stops = refl
  only_memory (ends.Whole code) stops = absurd stops
  only_memory (ends.Formatted units room) stops = absurd stops
  only_memory ends.Pool stops = absurd stops
  only_memory (ends.BadJournal rule) stops = absurd stops
  only_memory (ends.WrongUnit unit kept found) stops = absurd stops
  only_memory (ends.JournalSmall need have) stops = absurd stops
  only_memory ends.Sink stops = absurd stops
  only_memory ends.Words stops = absurd stops

  before : StopsBefore given left.end → left.end ≡ ends.Memory
  before stops = elim stops [
    | inl words ↦ absurd (words.0.1 (Jobs well.volumes well.asked.0 well.asked.1 well.path well.asked.2 well.asked.3) well.asked.4)
    | inr later ↦ elim later [
      | inl make ↦ absurd (no_make make.0.1.0 make.0.1.1.0)
      | inr last ↦ elim last [
        | inl memory ↦ memory.0
        | inr texts ↦ only_memory left.end (subst (λ (p : Option (List ℕ)). StopsTexts p given.held given.sysin left.end) (same_path texts.0 texts.1 texts.2) texts.3)
      ]
    ]
  ]

  -- ---- the pool was called

  abbrev Ended : Type 0
  Ended = ((code : ℕ) × (left.end ≡ ends.Whole code)) ⊎ (left.end ≡ ends.Memory)

  module _ (ready : EndsReady pools given pool left) where
    no_pool : left.end ≢ ends.Pool
    no_pool is = none.pool_count (ready.run.cause (λ apart. apart is))

    opened : OpensNot pools given.out pool (serials_of ready.volumes) left → Ended
    opened refused =
        let same = same_volumes ready.volumes ready.ready.path ready.ready.asked in
        let cause = subst (λ (v : List (Serial × List ℕ)). IsOpenFault (pools.shape pool) (pools.disk pool).state.contents (serials_of v) refused.fault) same (refused.cause opens.0) in
        elim (only_faults (pools.shape pool) (pools.disk pool).state.contents (serials_of well.volumes) refused.fault opens.1 cause) [
          | inl failed ↦ absurd (no_pool (refused.end_is ∙ ap end_of failed))
          | inr short ↦ inr (refused.end_is ∙ ap end_of short)
        ]

    by_wanted : (plan : Plan) (ran : List Ran) (under : Option Statement) → (left.end ≢ ends.Sink) → (wanted : RunEnd) → left.end ≡ wanted → HasRun plan ran under wanted → Ended
    by_wanted plan ran under taken (ends.Whole code) is has = inl (code, is)
    by_wanted plan ran under taken ends.Pool is has = absurd (no_pool is)
    by_wanted plan ran under taken ends.Memory is has = inr is
    by_wanted plan ran under taken ends.Sink is has = absurd (taken is)
    by_wanted plan ran under taken (ends.Formatted units room) is has = absurd has
    by_wanted plan ran under taken (ends.BadJournal rule) is has = absurd has
    by_wanted plan ran under taken (ends.WrongUnit unit kept found) is has = absurd has
    by_wanted plan ran under taken (ends.JournalSmall need have) is has = absurd has
    by_wanted plan ran under taken (ends.Source input) is has = absurd has
    by_wanted plan ran under taken ends.Words is has = absurd has
    by_wanted plan ran under taken (ends.Long input) is has = absurd has
    by_wanted plan ran under taken (ends.Wrong input line column) is has = absurd has
    by_wanted plan ran under taken ends.NotBuilt is has = absurd has

    ran : RunsText pools given.files given.out pool (serials_of ready.volumes) ready.table given.today ready.plan left → Ended
    ran text =
        let taken : left.end ≢ ends.Sink = λ is. none.out (text.printed.sink is).0 in
        elim text.end_is [
          | inl wanted ↦ by_wanted ready.plan text.ran text.under taken text.wanted wanted text.statements
          | inr sink ↦ absurd (taken sink.0)
        ]

    ended : Ended
    ended = elim ready.how [
      | inl refused ↦ opened refused
      | inr text ↦ ran text
    ]

  whole : EndsRun pools given pool left → Ended
  whole run = elim run [
    | inl stopped ↦ inr (before stopped.why)
    | inr later ↦ elim later [
      | inl format ↦ absurd (no_format format.volumes format.asked.0 format.room format.asked.1.0)
      | inr ready ↦ ended ready
    ]
  ]

pub runs_are_whole : {P : Type 0} (pools : Ghosts P) → RunsAreWhole pools
runs_are_whole pools given pool left well right opens none run = whole pools given pool left well right opens none run
