-- Runs that nothing stands against.
use Rattle.std.specs.Prelude.{◌≡◌, ◌⊎◌, ℕ, List, length, Option, Some}
use Rattle.dasd_pool.specs.Count.{Rose}
use Rattle.dasd_pool.specs.declared.pool.Pool.{Ghosts}
use Rattle.enq_table.specs.declared.hold.Hold.{Hold}
use Rattle.vol_label.specs.declared.serial.Serial.{Serial}
use Rattle.redo_core.specs.Faults.{MayFormat, MayOpen}
use Rattle.sysin_lang.specs.Flow.{Plan}
use Rattle.run_lines.specs.declared.ending.RunEnd.TheVariants as ends
use Rattle.adr_top.specs.job_script.Ends.{After}
use Rattle.adr_top.specs.Asked.{serials_of}
use Rattle.adr_top.specs.Ends.{Given, AsksFormat, AsksText, EndsRun}
use Rattle.adr_top.specs.Texts.{Texts, AreReady, HasFailed}

-- The words ask for a text, and what is handed in agrees with them.
pub record IsWellAsked (given : Given) : Type 0 where
  pub volumes : List (Serial × List ℕ)
  pub path : Option (List ℕ)
  pub asked : AsksText given volumes path

-- Both sources tell their texts, which have no more bytes than a text may have, are of their grammars, and hold only commands that are built.
pub record HasRightTexts (given : Given) (path : Option (List ℕ)) : Type 0 where
  pub texts : Texts
  pub table : List Hold
  pub plan : Plan
  pub ready : AreReady path given.held given.sysin texts table plan
  pub told_sysin : given.sysin.before ≡ Some texts.sysin
  pub told_held : (named : List ℕ) → path ≡ Some named → given.held.before ≡ Some texts.held

-- No count of the sources and the sink rises, nor the pool's.
pub record HasNoFault {P : Type 0} (pools : Ghosts P) (given : Given) (pool : P) (left : After P) : Type 0 where
  pub sysin : ¬ HasFailed given.sysin
  pub held : ¬ HasFailed given.held
  pub out : ¬ Rose given.out.faults_before given.out.faults_after
  pub pool_count : ¬ Rose (pools.faults pool) (pools.faults left.pool)

-- Nothing stands against the opening of the journal under the serials of the words.
abbrev pub OpensFor : {P : Type 0} → Ghosts P → P → List (Serial × List ℕ) → Type 0
OpensFor pools pool volumes = pools.tells × MayOpen (pools.shape pool) (pools.disk pool).state.contents (serials_of volumes)

-- However a run ends of which all this is so, it ends with a code, or memory ran out.
abbrev pub RunsAreWhole : {P : Type 0} → Ghosts P → Type 0
RunsAreWhole {P} pools =
    (given : Given) (pool : P) (left : After P) (well : IsWellAsked given) → HasRightTexts given well.path → OpensFor pools pool well.volumes
    → HasNoFault pools given pool left → EndsRun pools given pool left → ((code : ℕ) × (left.end ≡ ends.Whole code)) ⊎ (left.end ≡ ends.Memory)

-- ---- runs that make a journal

-- The words ask for a journal, and what is handed in agrees with them.
pub record IsMakingAsked (given : Given) : Type 0 where
  pub volumes : List (Serial × List ℕ)
  pub room : ℕ
  pub asked : AsksFormat given volumes room

-- Nothing stands against making it for the serials of the words.
abbrev pub MayMakeFor : {P : Type 0} → Ghosts P → P → List (Serial × List ℕ) → ℕ → Type 0
MayMakeFor pools pool volumes room = pools.tells × MayFormat (pools.shape pool) (pools.disk pool).state.contents (serials_of volumes) room

-- However a run ends of which all this is so, it made the journal, or memory ran out.
abbrev pub MakingsAreWhole : {P : Type 0} → Ghosts P → Type 0
MakingsAreWhole {P} pools =
    (given : Given) (pool : P) (left : After P) (well : IsMakingAsked given) → MayMakeFor pools pool well.volumes well.room
    → HasNoFault pools given pool left → EndsRun pools given pool left
    → (left.end ≡ ends.Formatted (length (serials_of well.volumes)) well.room) ⊎ (left.end ≡ ends.Memory)
