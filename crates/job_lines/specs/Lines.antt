-- The lines that print messages.
use Rattle.std.specs.Prelude.{ℕ, ◌+◌, ◌/◌, ◌%◌, List, [], ◌∷◌, ◌++◌, Option, Some, None, codes, slice_index, ◌==◌, if◌then◌else◌, bit_and}
use Rattle.std.specs.Option.{option_map_or}
use Rattle.std.specs.Fmt.{decimal}
use Rattle.ckd_image.specs.declared.device.Device.{Device}
use Rattle.ckd_image.specs.declared.device.Device.TheVariants.{D3390, D3380, D3350}
use Rattle.sysin_words.specs.declared.lead.Verb.{Verb}
use Rattle.sysin_words.specs.declared.lead.Verb.TheVariants as verbs
use Rattle.volume_model.specs.declared.why.Why.{Why}
use Rattle.volume_model.specs.declared.why.Why.TheVariants as whys
use Rattle.volume_model.specs.Rules.{rule_of, words_of}
use Rattle.job_lines.specs.declared.message.Reason.{Reason}
use Rattle.job_lines.specs.declared.message.Reason.TheVariants as reasons
use Rattle.job_lines.specs.declared.message.VolumeSummary.{VolumeSummary}
use Rattle.job_lines.specs.declared.message.SetSummary.{SetSummary}
use Rattle.job_lines.specs.declared.message.ExtentSummary.{ExtentSummary}
use Rattle.job_lines.specs.declared.message.InputFlaw.{InputFlaw}
use Rattle.job_lines.specs.declared.message.InputFlaw.TheVariants as flaws
use Rattle.job_lines.specs.declared.message.Message.{Message}
use Rattle.job_lines.specs.declared.message.Message.TheVariants as messages
use Rattle.job_lines.specs.Names.{dd_text, printed}
use Rattle.job_lines.specs.Severity.{letter_of, severity_in}

-- ---- numbers and names

-- a number as three digits
abbrev pub three : ℕ → List ℕ
three n = (48 + n / 100 % 10) ∷ (48 + n / 10 % 10) ∷ (48 + n % 10) ∷ []

abbrev pub hex_digit : ℕ → ℕ
hex_digit n = slice_index (codes "0123456789ABCDEF") n

-- a byte as two hexadecimal digits
abbrev pub hex : ℕ → List ℕ
hex byte = hex_digit (byte / 16) ∷ hex_digit (byte % 16) ∷ []

-- two bytes as four
abbrev pub hex_four : ℕ → List ℕ
hex_four number = hex (number / 256) ++ hex (number % 256)

abbrev pub device_name : Device → List ℕ
device_name D3390 = codes "3390"
device_name D3380 = codes "3380"
device_name D3350 = codes "3350"

-- the abbreviation of an organization without its bit for what can't be moved
abbrev pub base_organization : ℕ → List ℕ
base_organization base =
    if base == 0x4000 then codes "PS" else if base == 0x2000 then codes "DA" else if base == 0x8000 then codes "IS"
    else if base == 0x0200 then codes "PO" else if base == 0x0008 then codes "VS" else codes "--"

-- the organization of a data set, and U where it can't be moved
abbrev pub organization : ℕ → List ℕ
organization dsorg = let base = bit_and dsorg 0xFEFF in base_organization base ++ (if base == dsorg then [] else codes "U")

abbrev pub command_name : Verb → List ℕ
command_name verbs.Print = codes "PRINT"
command_name verbs.Release = codes "RELEASE"
command_name verbs.Consolidate = codes "CONSOLIDATE"
command_name verbs.Defrag = codes "DEFRAG"
command_name verbs.Copy = codes "COPY"
command_name verbs.Dump = codes "DUMP"
command_name verbs.Restore = codes "RESTORE"

-- ---- reasons and causes

abbrev pub reason_number : Reason → ℕ
reason_number reasons.Held = 301
reason_number reasons.NoSpace = 302
reason_number reasons.VtocFull = 303
reason_number reasons.NameExists = 304
reason_number reasons.Pinned = 305
reason_number reasons.NotRelocatable = 306
reason_number reasons.BadTrack = 307
reason_number reasons.NotExpired = 308
reason_number reasons.BlockTooLong = 309
reason_number reasons.NewNameTooLong = 310

abbrev pub reason_words : Reason → List ℕ
reason_words reasons.Held = codes "HELD"
reason_words reasons.NoSpace = codes "NO SPACE"
reason_words reasons.VtocFull = codes "VTOC FULL"
reason_words reasons.NameExists = codes "NAME EXISTS"
reason_words reasons.Pinned = codes "PINNED"
reason_words reasons.NotRelocatable = codes "NOT RELOCATABLE"
reason_words reasons.BadTrack = codes "BAD TRACK"
reason_words reasons.NotExpired = codes "NOT EXPIRED"
reason_words reasons.BlockTooLong = codes "BLOCK TOO LONG"
reason_words reasons.NewNameTooLong = codes "NEW NAME TOO LONG"

-- what is wrong with an input: a number, or that what it holds is a dump of another kind
abbrev pub flaw_words : InputFlaw → List ℕ
flaw_words flaws.BadField = codes "60"
flaw_words flaws.Truncated = codes "61"
flaw_words flaws.DigestDiffers = codes "62"
flaw_words flaws.OtherKind = codes "KIND"

-- the words of a rule of the VTOC by its number, and none where no rule has it
abbrev pub rule_words : ℕ → List ℕ
rule_words number = option_map_or words_of (rule_of number) []

-- why a unit is offline
abbrev pub why_words : Why → List ℕ
why_words (whys.Head number) = codes "HEAD " ++ decimal number
why_words (whys.Label number) = codes "LABEL " ++ decimal number
why_words (whys.Vtoc track record_number rule) = codes "VTOC " ++ decimal track ++ codes " " ++ decimal record_number ++ codes " " ++ rule_words rule
why_words whys.Filling = codes "FILLING"

-- ---- texts

abbrev pub volume_text : VolumeSummary → List ℕ
volume_text volume =
    codes "VOLUME " ++ printed volume.serial.text ++ codes " " ++ device_name volume.device ++ codes " USABLE " ++ decimal volume.usable
    ++ codes " FREE " ++ decimal volume.free ++ codes " IN " ++ decimal volume.runs ++ codes " RUNS INDEX " ++ decimal volume.index

abbrev pub set_text : SetSummary → List ℕ
set_text set =
    printed set.name ++ codes " " ++ organization set.organization ++ codes " EXTENTS " ++ decimal set.extents ++ codes " TRACKS " ++ decimal set.tracks
    ++ codes " LAST " ++ hex_four set.last_track ++ hex set.last_record

abbrev pub extent_text : ExtentSummary → List ℕ
extent_text extent =
    codes "EXTENT " ++ decimal extent.number ++ codes " KIND " ++ hex extent.kind ++ codes " FROM " ++ decimal extent.first ++ codes " LENGTH " ++ decimal extent.tracks

-- what is said of the name of a copy where it is another than its origin's
abbrev pub renamed : Option (List ℕ) → List ℕ
renamed None = []
renamed (Some name) = codes " AS " ++ printed name

abbrev pub number_of : Message → ℕ
number_of (messages.Started verb) = 101
number_of (messages.Ended verb code) = 102
number_of (messages.Volume volume) = 110
number_of (messages.Set set) = 111
number_of (messages.Extent extent) = 112
number_of (messages.Released name tracks) = 120
number_of (messages.Consolidated name extents first) = 127
number_of (messages.Copied name serial copy) = 121
number_of (messages.Deleted name) = 124
number_of (messages.Restored name serial new) = 123
number_of (messages.Dumped name) = 122
number_of (messages.Reset name) = 125
number_of messages.NothingSelected = 201
number_of (messages.Rebuilt serial) = 202
number_of (messages.NotProcessed name reason severity) = reason_number reason
number_of (messages.OutputLost name) = 321
number_of messages.NoOutputWhole = 406
number_of (messages.Offline serial why) = 401
number_of (messages.Indexed serial) = 402
number_of (messages.VtocTooLong serial) = 403
number_of (messages.UnknownName serial) = 408
number_of (messages.UnknownFile name) = 408
number_of (messages.OutputUsed name) = 409
number_of (messages.InputIsOutput name) = 410
number_of (messages.InputFailed name) = 405
number_of (messages.BadDump name flaw) = 404
number_of messages.UnlikeDevices = 411

abbrev pub text_in : Message → List ℕ
text_in (messages.Started verb) = command_name verb ++ codes " STARTED"
text_in (messages.Ended verb code) = command_name verb ++ codes " ENDED CODE " ++ decimal code
text_in (messages.Volume volume) = volume_text volume
text_in (messages.Set set) = set_text set
text_in (messages.Extent extent) = extent_text extent
text_in (messages.Released name tracks) = printed name ++ codes " RELEASED " ++ decimal tracks
text_in (messages.Consolidated name extents first) = printed name ++ codes " CONSOLIDATED FROM " ++ decimal extents ++ codes " EXTENTS TO " ++ decimal first
text_in (messages.Copied name serial copy) = printed name ++ codes " COPIED TO " ++ printed serial.text ++ renamed copy
text_in (messages.Deleted name) = printed name ++ codes " DELETED"
text_in (messages.Restored name serial new) = printed name ++ codes " RESTORED TO " ++ printed serial.text ++ renamed new
text_in (messages.Dumped name) = printed name ++ codes " DUMPED"
text_in (messages.Reset name) = printed name ++ codes " RESET"
text_in messages.NothingSelected = codes "NOTHING SELECTED"
text_in (messages.Rebuilt serial) = printed serial.text ++ codes " VTOC REBUILT"
text_in (messages.NotProcessed name reason severity) = printed name ++ codes " NOT PROCESSED: " ++ reason_words reason
text_in (messages.OutputLost name) = codes "OUTPUT " ++ dd_text name ++ codes " LOST"
text_in messages.NoOutputWhole = codes "NO OUTPUT WHOLE"
text_in (messages.Offline serial why) = codes "UNIT " ++ printed serial.text ++ codes " OFFLINE: " ++ why_words why
text_in (messages.Indexed serial) = codes "VOLUME " ++ printed serial.text ++ codes " INDEXED"
text_in (messages.VtocTooLong serial) = codes "VOLUME " ++ printed serial.text ++ codes " VTOC TOO LONG"
text_in (messages.UnknownName serial) = codes "UNKNOWN NAME " ++ printed serial.text
text_in (messages.UnknownFile name) = codes "UNKNOWN NAME " ++ dd_text name
text_in (messages.OutputUsed name) = codes "OUTPUT " ++ dd_text name ++ codes " USED BEFORE"
text_in (messages.InputIsOutput name) = codes "INPUT " ++ dd_text name ++ codes " IS AN OUTPUT"
text_in (messages.InputFailed name) = codes "INPUT " ++ dd_text name ++ codes " FAILED"
text_in (messages.BadDump name flaw) = codes "INPUT " ++ dd_text name ++ codes " BAD DUMP " ++ flaw_words flaw
text_in messages.UnlikeDevices = codes "UNLIKE DEVICES"

-- a line: the message's number and letter, the number of its statement in brackets, and its text
abbrev pub line : ℕ → Message → List ℕ
line statement message =
    codes "ADR" ++ three (number_of message) ++ (letter_of (severity_in message) ∷ []) ++ codes " (" ++ three statement ++ codes ") " ++ text_in message ++ (10 ∷ [])
