-- A run that is to make a journal, and that nothing stands against, makes it.
use Rattle.std.proofs.Common.{◌≡◌, ◌⊎◌, inl, inr, ℕ, List, length, ap, subst, ◌∙◌, arith}
use Rattle.std.specs.Prelude.{Option}
use Rattle.dasd_pool.specs.declared.pool.Pool.{Ghosts}
use Rattle.vol_label.specs.declared.serial.Serial.{Serial}
use Rattle.redo_core.proofs.Allowed.{only_faults_making}
use Rattle.run_words.specs.declared.run.Run.{Run}
use Rattle.run_words.specs.declared.run.Run.TheVariants.{Jobs, Format, Make}
use Rattle.run_words.proofs.OneRun as runs
use Rattle.run_lines.specs.declared.ending.RunEnd.TheVariants as ends
use Rattle.run_lines.specs.Endings.{end_of}
use Rattle.adr_top.specs.job_script.Ends.{After}
use Rattle.adr_top.specs.Asked.{AskFor, serials_of}
use Rattle.adr_top.specs.Ends.{Given, AsksFormat, AsksText, StopsBefore, Formats, EndsRun}
use Rattle.run_laws.proofs.Words.{kind_in, volumes_in, room_in}
use Rattle.run_laws.specs.Complete.{IsMakingAsked, MayMakeFor, HasNoFault, MakingsAreWhole}

module _ {P : Type 0} (pools : Ghosts P) (given : Given) (pool : P) (left : After P) (well : IsMakingAsked given) (may : MayMakeFor pools pool well.volumes well.room)
    (none : HasNoFault pools given pool left) where
  abbrev own : AskFor given.words (Format well.volumes well.asked.0 well.room)
  own = well.asked.1.0

  same_run : (run : Run) → AskFor given.words run → run ≡ Format well.volumes well.asked.0 well.room
  same_run run other =
      runs.words_have_one_run given.words other.0 own.0 run (Format well.volumes well.asked.0 well.room) other.1 other.2 own.1 own.2

  no_text : (volumes : List (Serial × List ℕ)) (path : Option (List ℕ)) → ¬ AsksText given volumes path
  no_text volumes path asked =
      let same : 0 ≡ 1 = ap (λ (r : Run). kind_in r) (same_run (Jobs volumes asked.0 asked.1 path asked.2 asked.3) asked.4.0) in
      omega (arith, same)

  no_make : (number : ℕ) → ¬ AskFor given.words (Make number)
  no_make number asked =
      let same : 2 ≡ 1 = ap (λ (r : Run). kind_in r) (same_run (Make number) asked) in
      omega (arith, same)

  same_volumes : (volumes : List (Serial × List ℕ)) (room : ℕ) → AsksFormat given volumes room → volumes ≡ well.volumes
  same_volumes volumes room asked = ap (λ (r : Run). volumes_in r) (same_run (Format volumes asked.0 room) asked.1.0)

  same_room : (volumes : List (Serial × List ℕ)) (room : ℕ) → AsksFormat given volumes room → room ≡ well.room
  same_room volumes room asked = ap (λ (r : Run). room_in r) (same_run (Format volumes asked.0 room) asked.1.0)

  before : StopsBefore given left.end → left.end ≡ ends.Memory
  before stops = elim stops [
    | inl words ↦ absurd (words.0.1 (Format well.volumes well.asked.0 well.room) well.asked.1)
    | inr later ↦ elim later [
      | inl make ↦ absurd (no_make make.0.1.0 make.0.1.1.0)
      | inr last ↦ elim last [
        | inl memory ↦ memory.0
        | inr texts ↦ absurd (no_text texts.0 texts.1 texts.2)
      ]
    ]
  ]

  abbrev Ended : Type 0
  Ended = (left.end ≡ ends.Formatted (length (serials_of well.volumes)) well.room) ⊎ (left.end ≡ ends.Memory)

  made : Formats pools given.out pool (serials_of well.volumes) well.room left → Ended
  made formats = elim formats.made [
    | inl done ↦ elim done.line [
      | inl line ↦ inl line.0
      | inr sink ↦ absurd (none.out sink.2)
    ]
    | inr refused ↦ elim (only_faults_making (pools.shape pool) (pools.disk pool).state.contents (serials_of well.volumes) well.room refused.fault may.1 (refused.cause may.0)) [
      | inl failed ↦ absurd (none.pool_count (refused.failed (refused.end_is ∙ ap end_of failed)))
      | inr short ↦ inr (refused.end_is ∙ ap end_of short)
    ]
  ]

  whole : EndsRun pools given pool left → Ended
  whole run = elim run [
    | inl stopped ↦ inr (before stopped.why)
    | inr later ↦ elim later [
      | inl format ↦ made
          (subst (λ (n : ℕ). Formats pools given.out pool (serials_of well.volumes) n left) (same_room format.volumes format.room format.asked)
          (subst (λ (l : List (Serial × List ℕ)). Formats pools given.out pool (serials_of l) format.room left) (same_volumes format.volumes format.room format.asked) format.formats))
      | inr ready ↦ absurd (no_text ready.volumes ready.ready.path ready.ready.asked)
    ]
  ]

pub makings_are_whole : {P : Type 0} (pools : Ghosts P) → MakingsAreWhole pools
makings_are_whole pools given pool left well may none run = whole pools given pool left well may none run
