-- The fields of a format 1, each by its place in the 140 bytes.
use Rattle.std.specs.Prelude.{ℕ, ◌+◌, ◌*◌, ◌/◌, Bool, ◌==◌, ◌&&◌, not, if◌then◌else◌, List, [], ◌∷◌, take, drop, slice_index, bit_and}
use Rattle.dscb_rec.specs.declared.format1.Date.{Date}
use Rattle.dscb_rec.specs.declared.format1.LastBlock.{LastBlock}
use Rattle.dscb_rec.specs.declared.format1.AllocationKind.{AllocationKind}
use Rattle.dscb_rec.specs.declared.format1.AllocationKind.TheVariants as kinds

-- ---- parts of fields

-- the two bytes at a place as a number
abbrev pub number_in : List ℕ → ℕ → ℕ
number_in bytes place = 256 * slice_index bytes place + slice_index bytes (place + 1)

-- the date at a place: the year less 1900 in one byte, and the day of the year in two
abbrev pub date_in : List ℕ → ℕ → Date
date_in bytes place = record { year = 1900 + slice_index bytes place; day = number_in bytes (place + 1) }

-- some of these bits of an indicator are on
abbrev pub is_on : ℕ → ℕ → Bool
is_on bits indicator = not (bit_and indicator bits == 0)

-- ---- names and numbers

-- the name, in EBCDIC and filled up with blanks
abbrev pub name_in : List ℕ → List ℕ
name_in bytes = take 44 bytes

-- the serial of the data set's first volume
abbrev pub serial_in : List ℕ → List ℕ
serial_in bytes = take 6 (drop 45 bytes)

-- which of its volumes this is, for a data set of several
abbrev pub volume_sequence_in : List ℕ → ℕ
volume_sequence_in bytes = number_in bytes 51

-- ---- dates

abbrev pub creation_in : List ℕ → Date
creation_in bytes = date_in bytes 53

abbrev pub expiry_in : List ℕ → Date
expiry_in bytes = date_in bytes 56

-- when it was last opened
abbrev pub reference_in : List ℕ → Date
reference_in bytes = date_in bytes 75

-- ---- kinds and lengths

abbrev pub flags_in : List ℕ → ℕ
flags_in bytes = slice_index bytes 61

abbrev pub sms_flags_in : List ℕ → ℕ
sms_flags_in bytes = slice_index bytes 78

abbrev pub organization_in : List ℕ → ℕ
organization_in bytes = number_in bytes 82

abbrev pub record_format_in : List ℕ → ℕ
record_format_in bytes = slice_index bytes 84

abbrev pub block_length_in : List ℕ → ℕ
block_length_in bytes = number_in bytes 86

abbrev pub record_length_in : List ℕ → ℕ
record_length_in bytes = number_in bytes 88

abbrev pub key_length_in : List ℕ → ℕ
key_length_in bytes = slice_index bytes 90

-- ---- indicators

abbrev pub indicators_in : List ℕ → ℕ
indicators_in bytes = slice_index bytes 93

-- this is the last of its volumes
abbrev pub is_last_volume_in : List ℕ → Bool
is_last_volume_in bytes = is_on 0x80 (indicators_in bytes)

-- it was changed since the last dump
abbrev pub is_changed_in : List ℕ → Bool
is_changed_in bytes = is_on 0x02 (indicators_in bytes)

-- ---- space

-- the number of its extents, on this volume
abbrev pub extent_count_in : List ℕ → ℕ
extent_count_in bytes = slice_index bytes 59

-- how a data set asks for space, by two bits
abbrev pub kind_of_bits : ℕ → AllocationKind
kind_of_bits bits = if bits == 0 then kinds.Absolute else if bits == 1 then kinds.Blocks else if bits == 2 then kinds.Tracks else kinds.Cylinders

-- by the top two bits of the secondary allocation
abbrev pub allocation_kind_in : List ℕ → AllocationKind
allocation_kind_in bytes = kind_of_bits (slice_index bytes 94 / 64)

-- how much it asks for, in the low three bytes of the secondary allocation
abbrev pub secondary_amount_in : List ℕ → ℕ
secondary_amount_in bytes = 65536 * slice_index bytes 95 + number_in bytes 96

-- the last block: its track, counted from the first of the data set, and its record
abbrev pub last_block_in : List ℕ → LastBlock
last_block_in bytes = record { track = number_in bytes 98; «record» = slice_index bytes 100 }

-- zeros, where there is no last block
abbrev pub is_no_block : LastBlock → Bool
is_no_block block = (block.track == 0) && (block.«record» == 0)

-- where its three extents stand
abbrev pub extent_places : List ℕ
extent_places = 105 ∷ 115 ∷ 125 ∷ []
