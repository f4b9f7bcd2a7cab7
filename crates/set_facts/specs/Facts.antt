-- What the format 1 and the extents of a data set say of it.
use Rattle.std.specs.Prelude.{◌≡◌, ◌⊎◌, ℕ, ◌+◌, ◌/◌, not, ◌==◌, if◌then◌else◌, List, length, bit_and, slice_index}
use Rattle.by_rules.specs.declared.day.Day.{Day}
use Rattle.by_rules.specs.declared.row.AllocKind.{AllocKind}
use Rattle.by_rules.specs.declared.row.AllocKind.TheVariants as kinds
use Rattle.by_rules.specs.declared.row.RowFacts.{RowFacts}
use Rattle.by_rules.specs.Day.{IsEarlier}
use Rattle.volume_model.specs.Dscbs.{number_at}
use Rattle.volume_model.specs.Pinned.{organization_in, sequence_in}
use Rattle.volume_model.specs.Unit.{DataSet, tracks_of}

-- ---- dates

-- a date of a format 1: the year less 1900 in one byte, and the day of the year in two
abbrev pub day_at : List ℕ → ℕ → Day
day_at fields offset = record { year = 1900 + slice_index fields offset; day = number_at fields (offset + 1) }

-- the day on which a data set expires
abbrev pub expiry_in : List ℕ → Day
expiry_in fields = day_at fields 56

-- the days of the year 1999 that say that a data set never expires
abbrev pub IsNever : Day → Type 0
IsNever date = (date.year ≡ 1999) × ((date.day ≡ 365) ⊎ ((date.day ≡ 366) ⊎ (date.day ≡ 999)))

-- a data set is unexpired today: it never expires, or expires on a later day
abbrev pub IsUnexpired : List ℕ → Day → Type 0
IsUnexpired fields today = IsNever (expiry_in fields) ⊎ IsEarlier today (expiry_in fields)

-- ---- space

-- how a data set asked for its space, by the top two bits of its secondary allocation
abbrev pub kind_of_bits : ℕ → AllocKind
kind_of_bits bits = if bits == 0 then kinds.Absolute else if bits == 1 then kinds.Blocks else if bits == 2 then kinds.Tracks else kinds.Cylinders

-- ---- the facts that criteria speak of

-- the facts of a data set with so many extents and tracks, by the fields of its format 1
abbrev pub facts_from : List ℕ → ℕ → ℕ → RowFacts
facts_from fields extents tracks = record {
  dsorg = organization_in fields;
  created = day_at fields 53;
  expires = expiry_in fields;
  referred = day_at fields 75;
  extents = extents;
  tracks = tracks;
  changed = not (bit_and (slice_index fields 93) 0x02 == 0);
  alloc_kind = kind_of_bits (slice_index fields 94 / 64);
  sequence = sequence_in fields;
}

abbrev pub facts_of : DataSet → RowFacts
facts_of set = facts_from set.fields (length set.extents) (length (tracks_of set.extents))
