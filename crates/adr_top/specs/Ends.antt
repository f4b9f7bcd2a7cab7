-- How a run ends.
use Rattle.std.specs.Prelude.{◌≡◌, ◌≢◌, ◌⊎◌, ℕ, ◌≤◌, List, [], ◌++◌, All, length, Option, None, IfNone}
use Rattle.by_rules.specs.declared.day.Day.{Day}
use Rattle.dasd_pool.specs.Count.{Rose}
use Rattle.dasd_pool.specs.Disk.{LeavesOnly, Runs, none}
use Rattle.dasd_pool.specs.Stream.{Appends}
use Rattle.dasd_pool.specs.declared.pool.Pool.{Ghosts}
use Rattle.dd_names.specs.declared.dd.DdName.{DdName}
use Rattle.enq_table.specs.declared.hold.Hold.{Hold}
use Rattle.vol_label.specs.declared.serial.Serial.{Serial}
use Rattle.volume_model.specs.Unit.{UnitModel}
use Rattle.redo_core.specs.declared.fault.JournalFault.{JournalFault}
use Rattle.redo_core.specs.Faults.{IsFormatFault, IsOpenFault, MayFormat, MayOpen}
use Rattle.redo_core.specs.Opening.{IsFormatted, MakingLeaves, SparesVolumes, of_opening}
use Rattle.redo_core.specs.Steps.{of_making}
use Rattle.redo_core.specs.Reading.{journal_of}
use Rattle.move_core.specs.declared.steps.Step.{Step}
use Rattle.move_core.specs.Facts.{Facts, shown}
use Rattle.move_core.specs.Runs.{EndsSettled, IsRun}
use Rattle.move_core.specs.Stands.{Stands}
use Rattle.sysin_lang.specs.declared.command.Statement.{Statement}
use Rattle.sysin_lang.specs.Flow.{Plan}
use Rattle.run_words.specs.declared.run.Run.{Run}
use Rattle.run_words.specs.declared.run.Run.TheVariants.{Jobs, Format, Make}
use Rattle.run_lines.specs.declared.ending.RunEnd.{RunEnd}
use Rattle.run_lines.specs.declared.ending.RunEnd.TheVariants as ends
use Rattle.run_lines.specs.Endings.{end_of, last_line}
use Rattle.run_lines.specs.Texts.{AppendsLess, Tells}
use Rattle.job_script.specs.unit_session.Sessions.{IsRefusal}
use Rattle.dump_fmt.specs.Outs.{FilesSeen}
use Rattle.job_script.specs.Runs.{Ran, HandsOn, IsReported, OnlyListed, steps_of, lines_of, RunOn, HasRun, printed_text}
use Rattle.job_script.specs.Ends.{SinkSeen, After, IsEndOf, Prints, Took, ended_before}
use Rattle.adr_top.specs.Asked.{AskFor, Agrees, serials_of}
use Rattle.adr_top.specs.Texts.{SourceSeen, Texts, AreReady, StopsTexts, TakesTexts, IsUncalled}

-- What a run is given, what its sources and its sink saw of it, and what its outputs and inputs were before it and are after it.
pub record Given : Type 0 where
  pub words : List (List ℕ)
  pub units : ℕ
  pub outs : List DdName
  pub ins : List DdName
  pub files : FilesSeen
  pub today : Day
  pub sysin : SourceSeen
  pub held : SourceSeen
  pub out : SinkSeen

abbrev pub given : List (List ℕ) → ℕ → List DdName → List DdName → FilesSeen → Day → SourceSeen → SourceSeen → SinkSeen → Given
given words units outs ins files today sysin held out =
    record { words = words; units = units; outs = outs; ins = ins; files = files; today = today; sysin = sysin; held = held; out = out }

-- the words ask for a run, and what is handed in agrees with it
abbrev pub IsAsked : Given → Run → Type 0
IsAsked given run = AskFor given.words run × Agrees run given.units given.outs given.ins

-- they ask for a text to be run over these volumes, and name a held text or don't
abbrev pub AsksText : Given → List (Serial × List ℕ) → Option (List ℕ) → Type 0
AsksText given volumes path =
    (journal sysin : List ℕ) × (outs ins : List (DdName × List ℕ)) × IsAsked given (Jobs volumes journal sysin path outs ins)

-- they ask for a journal for these volumes, with this room
abbrev pub AsksFormat : Given → List (Serial × List ℕ) → ℕ → Type 0
AsksFormat given volumes room = (journal : List ℕ) × IsAsked given (Format volumes journal room)

-- ---- what is left where no step was done

-- no step was done, none is under way, and the last line was tried
pub record DidNothing {P : Type 0} (out : SinkSeen) (left : After P) : Type 0 where
  pub steps : left.steps ≡ []
  pub pending : left.pending ≡ None
  pub told : Tells out.before out.after out.faults_before out.faults_after (last_line left.end)
  pub later : out.faults_before ≤ out.faults_after

-- the sources aren't called
pub record CallsNoSource (given : Given) : Type 0 where
  pub sysin : IsUncalled given.sysin
  pub held : IsUncalled given.held

-- ---- the run stopped before its pool was called

-- Why: the words ask for nothing that agrees with what is handed in, or for a sample volume, or the texts aren't ready. Or memory ran out.
abbrev pub StopsBefore : Given → RunEnd → Type 0
StopsBefore given end =
    (((end ≡ ends.Words) × ((run : Run) → ¬ IsAsked given run)) × CallsNoSource given)
    ⊎ ((((end ≡ ends.NotBuilt) × ((number : ℕ) × IsAsked given (Make number))) × CallsNoSource given)
    ⊎ (((end ≡ ends.Memory) × CallsNoSource given)
    ⊎ ((volumes : List (Serial × List ℕ)) × (path : Option (List ℕ)) × AsksText given volumes path × StopsTexts path given.held given.sysin end
    × TakesTexts path given.held given.sysin)))

pub record EndsBefore {P : Type 0} (pools : Ghosts P) (given : Given) (pool : P) (left : After P) : Type 0 where
  pub why : StopsBefore given left.end
  pub did : DidNothing given.out left
  pub same : left.pool ≡ pool

-- ---- a journal was to be made

-- it was made, for these serials, and its line was taken, or not all of it
pub record WasMade {P : Type 0} (pools : Ghosts P) (out : SinkSeen) (pool : P) (serials : List Serial) (room : ℕ) (left : After P) : Type 0 where
  pub allowed : pools.tells → MayFormat (pools.shape pool) (pools.disk pool).state.contents serials room
  pub formatted : pools.tells → IsFormatted (pools.shape pool) (pools.disk pool).state serials room (pools.disk left.pool).state
  pub line : ((left.end ≡ ends.Formatted (length serials) room) × Appends out.before out.after (last_line left.end))
      ⊎ ((left.end ≡ ends.Sink) × AppendsLess out.before out.after (last_line (ends.Formatted (length serials) room)) × Rose out.faults_before out.faults_after)

-- It wasn't, by the first cause. A refusal leaves the pool as it was, and nothing is written before all causes are known not to stand.
pub record WasNotMade {P : Type 0} (pools : Ghosts P) (out : SinkSeen) (pool : P) (serials : List Serial) (room : ℕ) (left : After P) : Type 0 where
  pub fault : JournalFault
  pub end_is : left.end ≡ end_of fault
  pub cause : pools.tells → IsFormatFault (pools.shape pool) (pools.disk pool).state.contents serials room fault
  pub failed : left.end ≡ ends.Pool → Rose (pools.faults pool) (pools.faults left.pool)
  pub unwritten : pools.tells → left.end ≢ ends.Pool → Runs none (pools.disk pool) (pools.disk left.pool)
  pub careful : pools.tells → MayFormat (pools.shape pool) (pools.disk pool).state.contents serials room ⊎ Runs none (pools.disk pool) (pools.disk left.pool)
  pub did : DidNothing out left

-- No block of a volume is written, whatever moment a stop comes at, and of the journal's own blocks a stop leaves what `MakingLeaves` says.
pub record Formats {P : Type 0} (pools : Ghosts P) (out : SinkSeen) (pool : P) (serials : List Serial) (room : ℕ) (left : After P) : Type 0 where
  pub no_steps : left.steps ≡ []
  pub none_pending : left.pending ≡ None
  pub shape : pools.shape left.pool ≡ pools.shape pool
  pub later : pools.faults pool ≤ pools.faults left.pool
  pub runs : pools.tells → Runs (of_making (journal_of (pools.shape pool))) (pools.disk pool) (pools.disk left.pool)
  pub spares : pools.tells → LeavesOnly (pools.disk pool) (pools.disk left.pool) (SparesVolumes (pools.shape pool) (pools.disk pool).state)
  pub stops : pools.tells → LeavesOnly (pools.disk pool) (pools.disk left.pool) (MakingLeaves (pools.shape pool) (pools.disk pool).state)
  pub made : WasMade pools out pool serials room left ⊎ WasNotMade pools out pool serials room left

pub record EndsFormat {P : Type 0} (pools : Ghosts P) (given : Given) (pool : P) (left : After P) : Type 0 where
  pub volumes : List (Serial × List ℕ)
  pub room : ℕ
  pub asked : AsksFormat given volumes room
  pub uncalled : CallsNoSource given
  pub formats : Formats pools given.out pool (serials_of volumes) room left

-- ---- the texts were ready

-- what the run was asked, and what its texts made
pub record WasReady (given : Given) (volumes : List (Serial × List ℕ)) (table : List Hold) (plan : Plan) : Type 0 where
  pub path : Option (List ℕ)
  pub texts : Texts
  pub asked : AsksText given volumes path
  pub ready : AreReady path given.held given.sysin texts table plan
  pub takes : TakesTexts path given.held given.sysin

-- The journal wasn't opened, by the first cause. No more than its opening was written, and nothing where it was refused, or where a cause to
-- refuse it stands.
pub record OpensNot {P : Type 0} (pools : Ghosts P) (out : SinkSeen) (pool : P) (serials : List Serial) (left : After P) : Type 0 where
  pub fault : JournalFault
  pub end_is : left.end ≡ end_of fault
  pub cause : pools.tells → IsOpenFault (pools.shape pool) (pools.disk pool).state.contents serials fault
  pub unwritten : pools.tells → IsRefusal fault → Runs none (pools.disk pool) (pools.disk left.pool)
  pub careful : pools.tells → MayOpen (pools.shape pool) (pools.disk pool).state.contents serials ⊎ Runs none (pools.disk pool) (pools.disk left.pool)
  pub opening : pools.tells → Runs (of_opening (journal_of (pools.shape pool)) (pools.disk pool).state.contents) (pools.disk pool) (pools.disk left.pool)
  pub did : DidNothing out left

-- The journal was opened, and the text ran: statements of its plan by their codes, each as it means on the units for which the pool stood, and no step of one was done unless the
-- lines of all before it were taken. Only one that was cut adds steps of its own, and only where the pool failed one is under way. Where they all only list, or no step was done and
-- none is under way, no more than the opening was written.
pub record RunsText {P : Type 0} (pools : Ghosts P) (files : FilesSeen) (out : SinkSeen) (pool : P) (serials : List Serial) (table : List Hold) (today : Day) (plan : Plan) (left : After P) : Type 0 where
  pub opened : pools.tells → MayOpen (pools.shape pool) (pools.disk pool).state.contents serials
  pub ran : List Ran
  pub under : Option Statement
  pub wanted : RunEnd
  pub added : List Step
  pub statements : HasRun plan ran under wanted
  pub reports : All IsReported ran
  pub steps_are : left.steps ≡ steps_of ran ++ added
  pub none_added : IfNone under (added ≡ [])
  pub none_pending : left.end ≢ ends.Pool → left.pending ≡ None
  pub end_is : IsEndOf wanted left.end
  pub printed : Prints out left.end (printed_text ran under wanted)
  pub earlier : Took out (lines_of (ended_before ran under))
  pub quiet : pools.tells → OnlyListed ran under → Runs (of_opening (journal_of (pools.shape pool)) (pools.disk pool).state.contents) (pools.disk pool) (pools.disk left.pool)
  pub still : pools.tells → left.steps ≡ [] → left.pending ≡ None → Runs (of_opening (journal_of (pools.shape pool)) (pools.disk pool).state.contents) (pools.disk pool) (pools.disk left.pool)
  pub cut : FilesSeen
  pub handed : HandsOn files ran under cut
  pub means : pools.tells → (facts : Facts) (units : List UnitModel) → facts.shape ≡ pools.shape pool → Stands facts (pools.disk pool).state.contents units
      → RunOn (record { facts = facts; today = today; held = table }) ran under cut added left.pending units
  pub settled : pools.tells → left.end ≢ ends.Pool → (facts : Facts) (units : List UnitModel) → facts.shape ≡ pools.shape pool → Stands facts (pools.disk pool).state.contents units
      → EndsSettled facts (pools.disk left.pool) units left.steps left.pending

-- The pool was called for texts that were ready. Where it failed its count of faults rose.
pub record EndsReady {P : Type 0} (pools : Ghosts P) (given : Given) (pool : P) (left : After P) : Type 0 where
  pub volumes : List (Serial × List ℕ)
  pub table : List Hold
  pub plan : Plan
  pub ready : WasReady given volumes table plan
  pub run : IsRun pools.tells (shown pools pool) (shown pools left.pool) (left.end ≢ ends.Pool) left.steps left.pending
  pub how : OpensNot pools given.out pool (serials_of volumes) left ⊎ RunsText pools given.files given.out pool (serials_of volumes) table given.today plan left

-- ---- all of it

-- a code of statements is no status of a run that was stopped
abbrev pub HasCode : RunEnd → Type 0
HasCode (ends.Whole code) = code ≤ 12
HasCode _ = Unit {0}

-- it stopped before its pool was called, or was to make a journal, or its texts were ready
abbrev pub EndsRun : {P : Type 0} → Ghosts P → Given → P → After P → Type 0
EndsRun pools given pool left = EndsBefore pools given pool left ⊎ (EndsFormat pools given pool left ⊎ EndsReady pools given pool left)
