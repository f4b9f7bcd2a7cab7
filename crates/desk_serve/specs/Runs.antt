-- How a run ends.
use Rattle.std.specs.Prelude.{List, Option, Some, None}
use Rattle.desk_text.specs.declared.job.UnitLine.{UnitLine}
use Rattle.desk_state.specs.Ends.{IsRunCode}
use Rattle.desk_serve.specs.declared.runner.RunEnd.{RunEnd}
use Rattle.desk_serve.specs.declared.runner.RunEnd.TheVariants as ends

-- the session goes on
abbrev pub IsGoing : RunEnd → Type 0
IsGoing (ends.Broken print) = ⊥
IsGoing _ = Unit {0}

-- a run that ended has one of the codes of runs
abbrev pub HasRunCode : RunEnd → Type 0
HasRunCode (ends.Ended code print) = IsRunCode code
HasRunCode _ = Unit {0}

-- what is said of the units once a run ended: what the session shows, where there is one
abbrev pub lines_shown : {S : Type 0} → (S → List UnitLine → List UnitLine) → Option S → List UnitLine → List UnitLine
lines_shown shows (Some session) lines = shows session lines
lines_shown shows None lines = lines
