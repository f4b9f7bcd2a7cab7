-- How a run ends: its status, and its last line.
use Rattle.std.specs.Prelude.{ℕ, ◌+◌, List, [], ◌∷◌, ◌++◌, codes}
use Rattle.std.specs.Fmt.{decimal}
use Rattle.redo_core.specs.declared.fault.JournalFault.{JournalFault}
use Rattle.redo_core.specs.declared.fault.JournalFault.TheVariants as faults
use Rattle.job_lines.specs.Lines.{three}
use Rattle.job_lines.specs.Names.{printed}
use Rattle.run_lines.specs.declared.ending.Input.{Input}
use Rattle.run_lines.specs.declared.ending.Input.TheVariants as inputs
use Rattle.run_lines.specs.declared.ending.RunEnd.{RunEnd}
use Rattle.run_lines.specs.declared.ending.RunEnd.TheVariants as ends

abbrev pub status_of : RunEnd → ℕ
status_of (ends.Whole code) = code
status_of (ends.Formatted units room) = 0
status_of ends.Pool = 16
status_of (ends.BadJournal rule) = 20
status_of (ends.WrongUnit unit kept found) = 20
status_of (ends.JournalSmall need have) = 20
status_of (ends.Source input) = 24
status_of ends.Sink = 28
status_of ends.Memory = 32
status_of ends.Words = 36
status_of (ends.Long input) = 40
status_of (ends.Wrong input line column) = 44
status_of ends.NotBuilt = 48

-- as which a journal that isn't opened or made ends a run
abbrev pub end_of : JournalFault → RunEnd
end_of faults.Pool = ends.Pool
end_of (faults.BadJournal rule) = ends.BadJournal rule
end_of (faults.WrongUnit unit kept found) = ends.WrongUnit unit kept found
end_of (faults.JournalSmall need have) = ends.JournalSmall need have
end_of faults.NoMemory = ends.Memory

-- ---- the last line

-- the front of a line of the run itself, whose statement's number is 000: the number and letter of its message
abbrev pub run_head : ℕ → ℕ → List ℕ
run_head number letter = codes "ADR" ++ three number ++ (letter ∷ []) ++ codes " (000) "

abbrev pub maximum_line : ℕ → List ℕ
maximum_line code = run_head 103 73 ++ codes "MAXIMUM CODE " ++ decimal code ++ (10 ∷ [])

abbrev pub format_line : ℕ → ℕ → List ℕ
format_line units room = run_head 104 73 ++ codes "JOURNAL FORMATTED UNITS " ++ decimal units ++ codes " ROOM " ++ decimal room ++ (10 ∷ [])

abbrev pub input_name : Input → List ℕ
input_name inputs.Sysin = codes "SYSIN"
input_name inputs.Held = codes "HELD"

-- what a status alone doesn't say
abbrev pub detail_of : RunEnd → List ℕ
detail_of (ends.BadJournal rule) = codes ": JOURNAL " ++ decimal rule
detail_of (ends.WrongUnit unit kept found) = codes ": UNIT " ++ decimal unit ++ codes " SERIAL " ++ printed kept.text ++ codes " FOUND " ++ printed found.text
detail_of (ends.JournalSmall need have) = codes ": JOURNAL BLOCKS " ++ decimal have ++ codes " NEED " ++ decimal need
detail_of (ends.Source input) = codes ": " ++ input_name input
detail_of (ends.Long input) = codes ": " ++ input_name input
detail_of (ends.Wrong input line column) = codes ": " ++ input_name input ++ codes " LINE " ++ decimal line ++ codes " COLUMN " ++ decimal column
detail_of _ = []

-- the run was stopped, and says so
abbrev pub IsStop : RunEnd → Type 0
IsStop (ends.Whole code) = ⊥
IsStop (ends.Formatted units room) = ⊥
IsStop ends.Sink = ⊥
IsStop ends.Memory = ⊥
IsStop _ = Unit {0}

-- the front of its last line
abbrev pub stop_head : RunEnd → List ℕ
stop_head end = run_head (500 + status_of end) 84 ++ codes "RUN ENDED WITH STATUS " ++ decimal (status_of end)

-- a sink that failed, and want of memory, have no last line
abbrev pub last_line : RunEnd → List ℕ
last_line (ends.Whole code) = maximum_line code
last_line (ends.Formatted units room) = format_line units room
last_line ends.Sink = []
last_line ends.Memory = []
last_line end = stop_head end ++ (detail_of end ++ (10 ∷ []))
