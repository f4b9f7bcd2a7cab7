-- Which parts of a dump a filter takes.
use Rattle.std.specs.Prelude.{◌≡◌, ◌↔◌, ℕ, Bool, false, IsTrue, List, [], ◌∷◌, take, Option}
use Rattle.by_rules.specs.declared.day.Day.{Day}
use Rattle.dsn_filter.specs.declared.dsn.Dsn.{Dsn}
use Rattle.dsn_filter.specs.Dsn.{IsDsn}
use Rattle.dump_fmt.specs.declared.piece.DumpHead.{DumpHead}
use Rattle.dump_fmt.specs.Front.{Front}
use Rattle.dump_fmt.specs.Parts.{DumpPart, is_whole}
use Rattle.dump_fmt.specs.Text.{IsDumpText}
use Rattle.set_facts.specs.Facts.{facts_from}
use Rattle.set_facts.specs.Selection as selection
use Rattle.sysin_lang.specs.declared.command.Filter.{Filter}
use Rattle.volume_model.specs.Pinned.{IsNameOf}
use Rattle.volume_model.specs.Reads.{fields_of_1}
use Rattle.dump_read.specs.Reading.{HeldSuch}
use Rattle.dump_parts.specs.declared.survey.Survey.{Survey}

-- A filter passes a data set with this format 1 and so many tracks: its name is a data set name and passes, with what the format 1 says. A part has no extents.
pub record Passes (filter : Filter) (today : Day) (f1 : List ℕ) (tracks : ℕ) : Type 0 where
  pub name : Dsn
  pub lawful : IsDsn name
  pub name_is : IsNameOf name (take 44 f1)
  pub passes : selection.Passes filter.include filter.exclude (selection.criteria_in filter.by) today name (facts_from (fields_of_1 f1) 0 tracks)

-- it takes a part: that is whole, and passes
abbrev pub TakesPart : Filter → Day → DumpPart → Type 0
TakesPart filter today part = IsTrue (is_whole part) × Passes filter today part.f1 part.tracks

-- of each part it is told whether the filter takes it
abbrev pub AreTaken : Filter → Day → List DumpPart → List Bool → Type 0
AreTaken filter today [] taken = taken ≡ []
AreTaken filter today (part ∷ parts) taken =
    (is : Bool) × (more : List Bool) × (taken ≡ is ∷ more) × (IsTrue is ↔ TakesPart filter today part) × AreTaken filter today parts more

-- the dump with this header that a reel holds has parts of which that is told
abbrev pub TakesTo : Filter → Day → Option (List ℕ) → DumpHead → List Bool → Type 0
TakesTo filter today held head taken = HeldSuch held (λ whole. (front : Front) × IsDumpText whole head front × AreTaken filter today front.parts taken)

-- What a reel holds is a dump with this header; of each part of a logical one it is told whether the filter takes it.
abbrev pub IsSurveyOf : Filter → Day → Option (List ℕ) → Survey → Type 0
IsSurveyOf filter today held survey =
    HeldSuch held (λ whole. (front : Front) × IsDumpText whole survey.head front × (survey.head.full ≡ false → AreTaken filter today front.parts survey.taken.items))
