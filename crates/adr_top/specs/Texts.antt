-- The texts of a run: how they are read, and why a run ends before its pool is called.
use Rattle.std.specs.Prelude.{◌≡◌, ◌≢◌, ◌⊎◌, ℕ, ◌<◌, ◌≤◌, List, [], true, length, Option, Some, None, IfSome}
use Rattle.dasd_pool.specs.Count.{Rose}
use Rattle.enq_table.specs.declared.hold.Hold.{Hold}
use Rattle.enq_table.specs.HeldText.{lines_of, TakesAll, IsTextFault}
use Rattle.sysin_text.specs.Tokens.{tokens_of}
use Rattle.sysin_lang.specs.Flow.{Plan}
use Rattle.sysin_read.specs.declared.fault.SysinFault.TheVariants as faults
use Rattle.sysin_read.specs.declared.fault.Why.{Why}
use Rattle.sysin_read.specs.Refusal.{IsRefusal}
use Rattle.sysin_read.specs.Statement.{IsText}
use Rattle.job_script.specs.Built.{AreBuilt}
use Rattle.run_lines.specs.declared.ending.Input.TheVariants as inputs
use Rattle.run_lines.specs.declared.ending.RunEnd.{RunEnd}
use Rattle.run_lines.specs.declared.ending.RunEnd.TheVariants as ends
use Rattle.run_lines.specs.Texts.{most_bytes, IsTextOf, TakesFew}

-- what a source had to give before and after, where it tells, and its count of faults
pub record SourceSeen : Type 0 where
  pub before : Option (List ℕ)
  pub after : Option (List ℕ)
  pub faults_before : ℕ
  pub faults_after : ℕ

-- the held text and SYSIN
pub record Texts : Type 0 where
  pub held : List ℕ
  pub sysin : List ℕ

-- the held text is what its source had to give, or empty where the words name no file for it
abbrev pub IsHeldText : Option (List ℕ) → SourceSeen → List ℕ → Type 0
IsHeldText None held text = text ≡ []
IsHeldText (Some path) held text = IsTextOf held.before text

-- both texts are what their sources had to give, and no longer than a text may be
pub record AreRead (path : Option (List ℕ)) (held sysin : SourceSeen) (texts : Texts) : Type 0 where
  pub held_is : IsHeldText path held texts.held
  pub held_short : length texts.held ≤ most_bytes
  pub sysin_is : IsTextOf sysin.before texts.sysin
  pub sysin_short : length texts.sysin ≤ most_bytes

-- the table that a held text makes
abbrev pub MakesTable : Texts → List Hold → Type 0
MakesTable texts table = TakesAll [] (lines_of texts.held) table

-- the plan that SYSIN makes
abbrev pub MakesPlan : Texts → Plan → Type 0
MakesPlan texts plan = IsText true plan (tokens_of texts.sysin)

-- they were read, are of their grammars, and hold only commands that are built
pub record AreReady (path : Option (List ℕ)) (held sysin : SourceSeen) (texts : Texts) (table : List Hold) (plan : Plan) : Type 0 where
  pub read : AreRead path held sysin texts
  pub table_is : MakesTable texts table
  pub plan_is : MakesPlan texts plan
  pub built : AreBuilt plan

-- ---- why they are not ready

-- a source had more to give than a text may have
abbrev pub IsLong : SourceSeen → Type 0
IsLong source = IfSome source.before (λ bytes. most_bytes < length bytes)

abbrev pub HasFailed : SourceSeen → Type 0
HasFailed source = Rose source.faults_before source.faults_after

-- a source isn't called
pub record IsUncalled (source : SourceSeen) : Type 0 where
  pub left : source.after ≡ source.before
  pub faults : source.faults_after ≡ source.faults_before

-- the held text is what its source had to give, and no longer than a text may be
abbrev pub IsHeldRead : Option (List ℕ) → SourceSeen → Type 0
IsHeldRead path held = (text : List ℕ) × IsHeldText path held text × (length text ≤ most_bytes)

-- The first of these ends a run whose words are right: the held text isn't read, and then SYSIN isn't called; SYSIN isn't read; the held text isn't of its grammar;
-- SYSIN isn't; a command of it isn't built. Or memory ran out.
abbrev pub StopsTexts : Option (List ℕ) → SourceSeen → SourceSeen → RunEnd → Type 0
StopsTexts path held sysin (ends.Source inputs.Held) = (path ≢ None) × HasFailed held × IsUncalled sysin
StopsTexts path held sysin (ends.Long inputs.Held) = (path ≢ None) × IsLong held × IsUncalled sysin
StopsTexts path held sysin (ends.Source inputs.Sysin) = IsHeldRead path held × HasFailed sysin
StopsTexts path held sysin (ends.Long inputs.Sysin) = IsHeldRead path held × IsLong sysin
StopsTexts path held sysin (ends.Wrong inputs.Held line column) =
    (texts : Texts) × AreRead path held sysin texts × IsTextFault [] (lines_of texts.held) line column
StopsTexts path held sysin (ends.Wrong inputs.Sysin line column) =
    (texts : Texts) × (table : List Hold) × (why : Why) × AreRead path held sysin texts × MakesTable texts table
    × IsRefusal (tokens_of texts.sysin) (faults.BadStatement line column why)
StopsTexts path held sysin ends.NotBuilt =
    (texts : Texts) × (table : List Hold) × (plan : Plan) × AreRead path held sysin texts × MakesTable texts table × MakesPlan texts plan × (¬ AreBuilt plan)
StopsTexts path held sysin ends.Memory = Unit {0}
StopsTexts path held sysin _ = ⊥

-- ---- how much is read

-- Of a text at most one byte more is taken than it may have, unless its source failed. The held text's source isn't called where the words name no file.
pub record TakesTexts (path : Option (List ℕ)) (held sysin : SourceSeen) : Type 0 where
  pub unread : path ≡ None → IsUncalled held
  pub few_held : HasFailed held ⊎ TakesFew 1048577 held.before held.after
  pub few_sysin : HasFailed sysin ⊎ TakesFew 1048577 sysin.before sysin.after
