-- How the texts of a run are read: words that link its parts.
use Rattle.std.specs.Prelude.{◌≡◌, ◌⊎◌, ℕ, ◌≤◌, List, [], true, length, Option, Some, None}
use Rattle.dasd_pool.specs.declared.outside.Source.{Ghosts}
use Rattle.enq_table.specs.declared.hold.Hold.{Hold}
use Rattle.enq_table.specs.HeldText.{lines_of, TakesAll, IsTextFault}
use Rattle.sysin_text.specs.Tokens.{tokens_of}
use Rattle.sysin_lang.specs.Flow.{Plan}
use Rattle.sysin_lang.specs.Script.{plan_of_script}
use Rattle.sysin_read.specs.declared.fault.SysinFault.TheVariants as faults
use Rattle.sysin_read.specs.declared.fault.Why.{Why}
use Rattle.sysin_read.specs.Refusal.{IsRefusal}
use Rattle.sysin_read.specs.Statement.{IsText}
use Rattle.job_script.specs.Built.{AreBuilt}
use Rattle.run_lines.specs.declared.ending.Input.{Input}
use Rattle.run_lines.specs.declared.ending.Input.TheVariants as inputs
use Rattle.run_lines.specs.declared.ending.RunEnd.{RunEnd}
use Rattle.run_lines.specs.declared.ending.RunEnd.TheVariants as ends
use Rattle.run_lines.specs.Texts.{IsTextOf, TakesFew}
use Rattle.adr_top.specs.declared.texts.Ready.{Ready}
use Rattle.adr_top.specs.Texts.{SourceSeen, HasFailed, IsLong, IsUncalled}

-- a source before and after a call
abbrev pub source_seen : {S : Type 0} → Ghosts S → S → S → SourceSeen
source_seen sources old new = record { before = sources.left old; after = sources.left new; faults_before = sources.faults old; faults_after = sources.faults new }

-- of a text no more is taken than one byte beyond what it may have, unless its source failed
abbrev pub TakesOne : SourceSeen → Type 0
TakesOne source = HasFailed source ⊎ TakesFew 1048577 source.before source.after

-- a text was read to its end
pub record ReadsText (source : SourceSeen) (text : List ℕ) : Type 0 where
  pub text_is : IsTextOf source.before text
  pub short : length text ≤ 1048576
  pub few : TakesFew 1048577 source.before source.after

-- why it wasn't
abbrev pub IsReadingStop : SourceSeen → Input → RunEnd → Type 0
IsReadingStop source input end = ((end ≡ ends.Source input) × HasFailed source) ⊎ (((end ≡ ends.Long input) × IsLong source) ⊎ (end ≡ ends.Memory))

pub record StopsReading (source : SourceSeen) (input : Input) (end : RunEnd) : Type 0 where
  pub why : IsReadingStop source input end
  pub few : TakesOne source

-- how much is taken of the held text's source
abbrev pub TakesHeld : Option (List ℕ) → SourceSeen → Type 0
TakesHeld None held = IsUncalled held
TakesHeld (Some path) held = TakesOne held

-- why a held text makes no table
abbrev pub StopsTable : List ℕ → RunEnd → Type 0
StopsTable text (ends.Wrong inputs.Held line column) = IsTextFault [] (lines_of text) line column
StopsTable text ends.Memory = Unit {0}
StopsTable text _ = ⊥

-- why a text makes no script
abbrev pub StopsScript : List ℕ → RunEnd → Type 0
StopsScript text (ends.Wrong inputs.Sysin line column) = (why : Why) × IsRefusal (tokens_of text) (faults.BadStatement line column why)
StopsScript text ends.Memory = Unit {0}
StopsScript text _ = ⊥

-- what two texts make
pub record IsUnderstood (held sysin : List ℕ) (ready : Ready) : Type 0 where
  pub table_is : TakesAll [] (lines_of held) ready.held
  pub plan_is : IsText true (plan_of_script ready.script) (tokens_of sysin)
  pub built : AreBuilt (plan_of_script ready.script)

-- why they make nothing that can run
abbrev pub StopsGrammar : List ℕ → List ℕ → RunEnd → Type 0
StopsGrammar held sysin end =
    StopsTable held end
    ⊎ ((((table : List Hold) × TakesAll [] (lines_of held) table) × StopsScript sysin end)
    ⊎ ((table : List Hold) × (plan : Plan) × TakesAll [] (lines_of held) table × IsText true plan (tokens_of sysin) × (¬ AreBuilt plan) × (end ≡ ends.NotBuilt)))
