-- What the 140 bytes of a VTOC record spell: a key of 44 and 96 bytes, of which byte 44 names the format.
use Rattle.std.specs.Prelude.{◌≡◌, ◌≢◌, ◌⊎◌, ℕ, ◌<◌, List, replicate, slice_index}
use Rattle.dscb_rec.specs.declared.dscb.Dscb.{Dscb}
use Rattle.dscb_rec.specs.declared.dscb.Dscb.TheVariants.{Free, F1, F3, F4, F5}
use Rattle.dscb_rec.specs.declared.dscb.DscbRule.{DscbRule}
use Rattle.dscb_rec.specs.declared.dscb.DscbRule.TheVariants as rules
use Rattle.dscb_rec.specs.declared.dscb.DscbFault.{DscbFault}
use Rattle.dscb_rec.specs.declared.dscb.DscbFault.TheVariants.{BadDscb}

-- the byte that names the format
abbrev pub format_byte : List ℕ → ℕ
format_byte bytes = slice_index bytes 44

-- the first bytes, so many of them, all have this value
abbrev pub IsFilled : ℕ → ℕ → List ℕ → Type 0
IsFilled count value bytes = (k : ℕ) → k < count → slice_index bytes k ≡ value

-- the lowest of the first bytes, so many of them, that has another value
pub record IsFirstOther (count value : ℕ) (bytes : List ℕ) (place : ℕ) : Type 0 where
  pub within : place < count
  pub other : slice_index bytes place ≢ value
  pub before : IsFilled place value bytes

-- The grammar, case by case: a free DSCB is zeros, and formats 3, 4 and 5 begin with their identifier.
abbrev pub IsDscb : List ℕ → Dscb → Type 0
IsDscb bytes Free = IsFilled 140 0 bytes
IsDscb bytes (F1 kept) = (kept ≡ bytes) × (format_byte bytes ≡ 0xF1)
IsDscb bytes (F3 kept) = (kept ≡ bytes) × (format_byte bytes ≡ 0xF3) × IsFilled 4 0x03 bytes
IsDscb bytes (F4 kept) = (kept ≡ bytes) × (format_byte bytes ≡ 0xF4) × IsFilled 44 0x04 bytes
IsDscb bytes (F5 kept) = (kept ≡ bytes) × (format_byte bytes ≡ 0xF5) × IsFilled 4 0x05 bytes

-- the bytes of a DSCB
abbrev pub dscb_text : Dscb → List ℕ
dscb_text Free = replicate 140 0
dscb_text (F1 bytes) = bytes
dscb_text (F3 bytes) = bytes
dscb_text (F4 bytes) = bytes
dscb_text (F5 bytes) = bytes

-- the number of a rule in a refusal
abbrev pub number_of : DscbRule → ℕ
number_of rules.Format = 1
number_of rules.NotZero = 2
number_of rules.KeyId = 3

-- no format has this byte
pub record NamesNoFormat (code : ℕ) : Type 0 where
  pub not_free : code ≢ 0
  pub not_1 : code ≢ 0xF1
  pub not_3 : code ≢ 0xF3
  pub not_4 : code ≢ 0xF4
  pub not_5 : code ≢ 0xF5

-- the rule that fails, and the lowest byte that breaks it
abbrev pub IsWrong : List ℕ → DscbRule → ℕ → Type 0
IsWrong bytes rules.Format byte = (byte ≡ 44) × NamesNoFormat (format_byte bytes)
IsWrong bytes rules.NotZero byte = (format_byte bytes ≡ 0) × IsFirstOther 140 0 bytes byte
IsWrong bytes rules.KeyId byte =
    ((format_byte bytes ≡ 0xF3) × IsFirstOther 4 0x03 bytes byte)
    ⊎ ((format_byte bytes ≡ 0xF4) × IsFirstOther 44 0x04 bytes byte)
    ⊎ ((format_byte bytes ≡ 0xF5) × IsFirstOther 4 0x05 bytes byte)

-- a refusal of an identifier: so many bytes of one value
abbrev pub IsOtherId : ℕ → ℕ → List ℕ → DscbFault → Type 0
IsOtherId count value bytes (BadDscb byte why) = (why ≡ number_of rules.KeyId) × IsFirstOther count value bytes byte

-- what a refusal says
abbrev pub IsDscbFault : List ℕ → DscbFault → Type 0
IsDscbFault bytes (BadDscb byte why) = (rule : DscbRule) × (why ≡ number_of rule) × IsWrong bytes rule byte
