-- What the words of a run ask for, and what must agree with it.
use Rattle.std.specs.Prelude.{◌≡◌, ℕ, ◌+◌, List, [], length, map}
use Rattle.dd_names.specs.declared.dd.DdName.{DdName}
use Rattle.vol_label.specs.declared.serial.Serial.{Serial}
use Rattle.run_words.specs.declared.given.Given.{Given as GivenOption}
use Rattle.run_words.specs.declared.run.Run.{Run}
use Rattle.run_words.specs.declared.run.Run.TheVariants.{Jobs, Format, Make}
use Rattle.run_words.specs.Words.{Spells, IsRun}

-- words ask for a run
abbrev pub AskFor : List (List ℕ) → Run → Type 0
AskFor words run = (options : List GivenOption) × Spells words options × IsRun options run

-- they ask for a journal
abbrev pub AsksForJournal : List (List ℕ) → Type 0
AsksForJournal words = (volumes : List (Serial × List ℕ)) × (journal : List ℕ) × (room : ℕ) × AskFor words (Format volumes journal room)

-- a pool has so many volumes, and one unit more for the journal
abbrev pub HasUnits : ℕ → ℕ → Type 0
HasUnits units volumes = units ≡ volumes + 1

-- What is handed in is what a run names: the pool's units, the outputs and the inputs in their order. A journal is made without outputs and inputs, and
-- for a sample volume nothing is asked of them.
abbrev pub Agrees : Run → ℕ → List DdName → List DdName → Type 0
Agrees (Jobs volumes journal sysin held outs ins) units out_list in_list =
    HasUnits units (length volumes) × (out_list ≡ map (λ dd. dd.0) outs) × (in_list ≡ map (λ dd. dd.0) ins)
Agrees (Format volumes journal room) units out_list in_list = HasUnits units (length volumes) × (out_list ≡ []) × (in_list ≡ [])
Agrees (Make number) units out_list in_list = Unit {0}

-- the serials of named volumes
abbrev pub serials_of : List (Serial × List ℕ) → List Serial
serials_of volumes = map (λ volume. volume.0) volumes
