-- A volume serial: one to six characters, filled up with blanks.
use Rattle.std.specs.Prelude.{◌≡◌, ◌⊎◌, ℕ, ◌<◌, ◌≤◌, List, length, All, Some, slice_index}
use Rattle.vol_label.specs.declared.fault.LabelFault.{LabelFault}
use Rattle.vol_label.specs.declared.fault.LabelFault.TheVariants.{BadLabel}
use Rattle.vol_label.specs.CodePage.{ascii_of}

-- a character of a serial, in ASCII: A-Z, 0-9, $ # @ or -
abbrev pub IsSerialCharacter : ℕ → Type 0
IsSerialCharacter c = ((65 ≤ c) × (c ≤ 90)) ⊎ ((48 ≤ c) × (c ≤ 57)) ⊎ (c ≡ 36) ⊎ (c ≡ 35) ⊎ (c ≡ 64) ⊎ (c ≡ 45)

-- the characters of a serial
pub record IsSerialName (name : List ℕ) : Type 0 where
  pub some : 1 ≤ length name
  pub few : length name ≤ 6
  pub characters : All IsSerialCharacter name

-- six bytes spell a name: its characters in the code page, and then blanks
pub record Spells (name text : List ℕ) : Type 0 where
  pub six : length text ≡ 6
  pub characters : (k : ℕ) → k < length name → ascii_of (slice_index text k) ≡ Some (slice_index name k)
  pub blanks : (k : ℕ) → length name ≤ k → k < 6 → slice_index text k ≡ 0x40

-- a byte of a serial that is no blank
abbrev pub IsSerialByte : ℕ → Type 0
IsSerialByte byte = (c : ℕ) × (ascii_of byte ≡ Some c) × IsSerialCharacter c

-- six bytes are a serial of so many characters
pub record HasCharacters (text : List ℕ) (count : ℕ) : Type 0 where
  pub six : length text ≡ 6
  pub some : 1 ≤ count
  pub few : count ≤ 6
  pub characters : (k : ℕ) → k < count → IsSerialByte (slice_index text k)
  pub blanks : (k : ℕ) → count ≤ k → k < 6 → slice_index text k ≡ 0x40

-- six bytes are a serial
abbrev pub IsSerial : List ℕ → Type 0
IsSerial text = (count : ℕ) × HasCharacters text count

-- each refusal of a text as a serial has the number of the label's rule on it
abbrev pub IsSerialFault : List ℕ → LabelFault → Type 0
IsSerialFault text (BadLabel why) = (why ≡ 4) × ¬ IsSerialName text
