-- What the parts of a run do: words that link them.
use Rattle.std.specs.Prelude.{◌≡◌, ◌≢◌, ◌⊎◌, ℕ, ◌≤◌, List, Option}
use Rattle.by_rules.specs.declared.day.Day.{Day}
use Rattle.dasd_pool.specs.declared.outside.Sink.{Ghosts as SinkGhosts}
use Rattle.dasd_pool.specs.Disk.{Shape}
use Rattle.dasd_pool.specs.declared.pool.Pool.{Ghosts}
use Rattle.enq_table.specs.declared.hold.Hold.{Hold}
use Rattle.vol_label.specs.declared.serial.Serial.{Serial}
use Rattle.move_core.specs.Facts.{shown}
use Rattle.move_core.specs.Runs.{IsRun}
use Rattle.sysin_lang.specs.Flow.{Plan}
use Rattle.redo_core.specs.Opening.{AreNames}
use Rattle.run_words.specs.declared.run.Run.{Run}
use Rattle.run_words.specs.declared.run.Run.TheVariants.{Jobs, Format, Make}
use Rattle.run_lines.specs.declared.ending.RunEnd.{RunEnd}
use Rattle.run_lines.specs.declared.ending.RunEnd.TheVariants as ends
use Rattle.dump_fmt.specs.Outs.{FilesSeen}
use Rattle.job_script.specs.Ends.{SinkSeen, After}
use Rattle.adr_top.specs.Asked.{serials_of}
use Rattle.adr_top.specs.Ends.{DidNothing, Formats, OpensNot, RunsText}
use Rattle.adr_top.specs.Texts.{SourceSeen, IsUncalled, Texts, AreReady, StopsTexts, TakesTexts}

-- a sink before and after a call
abbrev pub sink_seen : {O : Type 0} → SinkGhosts O → O → O → SinkSeen
sink_seen sinks old new = record { before = sinks.taken old; after = sinks.taken new; faults_before = sinks.faults old; faults_after = sinks.faults new }

-- a run ended that did nothing to its pool
pub record IsRefused {P : Type 0} (out : SinkSeen) (pool : P) (end : RunEnd) (left : After P) : Type 0 where
  pub end_is : left.end ≡ end
  pub same : left.pool ≡ pool
  pub did : DidNothing out left

-- a journal was to be made, or there was no memory for the serials
abbrev pub EndsFormatting : {P : Type 0} → Ghosts P → SinkSeen → P → List Serial → ℕ → After P → Type 0
EndsFormatting pools out pool serials room left = Formats pools out pool serials room left ⊎ IsRefused out pool ends.Memory left

-- the pool was called for texts that were ready
pub record Opens {P : Type 0} (pools : Ghosts P) (files : FilesSeen) (out : SinkSeen) (pool : P) (serials : List Serial) (table : List Hold) (today : Day) (plan : Plan) (left : After P) : Type 0 where
  pub run : IsRun pools.tells (shown pools pool) (shown pools left.pool) (left.end ≢ ends.Pool) left.steps left.pending
  pub how : OpensNot pools out pool serials left ⊎ RunsText pools files out pool serials table today plan left

-- the texts weren't ready, or they were and the pool was called for them
abbrev pub EndsJobs : {P : Type 0} → Ghosts P → FilesSeen → Option (List ℕ) → SourceSeen → SourceSeen → SinkSeen → P → List Serial → Day → After P → Type 0
EndsJobs pools files path held sysin out pool serials today left =
    TakesTexts path held sysin
    × ((StopsTexts path held sysin left.end × IsRefused out pool left.end left)
    ⊎ ((texts : Texts) × (table : List Hold) × (plan : Plan) × AreReady path held sysin texts table plan × Opens pools files out pool serials table today plan left))

-- ---- by what is asked

-- the volumes that a run names have serials under which the pool's journal may be opened or made, and its room is one
abbrev pub IsLawful : Shape → Run → Type 0
IsLawful shape (Jobs volumes journal sysin path outs ins) = AreNames shape (serials_of volumes)
IsLawful shape (Format volumes journal room) = AreNames shape (serials_of volumes) × (3 ≤ room) × (room ≤ 8191)
IsLawful shape (Make number) = Unit {0}

abbrev pub EndsAsked : {P : Type 0} → Ghosts P → FilesSeen → Run → SourceSeen → SourceSeen → SinkSeen → P → Day → After P → Type 0
EndsAsked pools files (Jobs volumes journal text path outs ins) held sysin out pool today left = EndsJobs pools files path held sysin out pool (serials_of volumes) today left
EndsAsked pools files (Format volumes journal room) held sysin out pool today left =
    (IsUncalled held × IsUncalled sysin) × EndsFormatting pools out pool (serials_of volumes) room left
EndsAsked pools files (Make number) held sysin out pool today left = (IsUncalled held × IsUncalled sysin) × IsRefused out pool ends.NotBuilt left
