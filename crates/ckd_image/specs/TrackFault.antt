-- The first field of a slot that is wrong, where the slot holds no track text.
use Rattle.std.specs.Prelude.{◌≡◌, ◌≢◌, ◌⊎◌, ℕ, ◌+◌, ◌<◌, ◌≤◌, List, ◌++◌, length, All}
use Rattle.ckd_image.specs.declared.fault.CkdFault.{CkdFault}
use Rattle.ckd_image.specs.declared.fault.CkdFault.TheVariants.{BadTrack, NoMemory}
use Rattle.ckd_image.specs.declared.track.TrackAt.{TrackAt}
use Rattle.ckd_image.specs.declared.track.Count.{Count}
use Rattle.ckd_image.specs.declared.track.Rec.{Rec}
use Rattle.ckd_image.specs.declared.track.TrackField.{TrackField}
use Rattle.ckd_image.specs.declared.track.TrackField.TheVariants as fields
use Rattle.ckd_image.specs.Bytes.{Begins}
use Rattle.ckd_image.specs.Track.{count_text, records_text, home_text, zero_text, end_mark, IsRecord}

-- the number of a field in a refusal
abbrev pub number_of : TrackField → ℕ
number_of fields.Home = 1
number_of fields.Zero = 2
number_of fields.Address = 3
number_of fields.Length = 4
number_of fields.End = 5

-- each number of a count field fits its bytes
pub record IsCount (count : Count) : Type 0 where
  pub cylinder : count.at.cylinder ≤ 65535
  pub head : count.at.head ≤ 65535
  pub r : count.r ≤ 255
  pub key : count.key ≤ 255
  pub body : count.body ≤ 65535

-- ---- record 0

-- the place in the slot of the first field of record 0's count field that is wrong: address, number, key length or length
abbrev pub IsWrongZeroCount : TrackAt → Count → ℕ → Type 0
IsWrongZeroCount at count offset =
    ((offset ≡ 5) × (count.at ≢ at))
    ⊎ ((offset ≡ 9) × (count.at ≡ at) × (count.r ≢ 0))
    ⊎ ((offset ≡ 10) × (count.at ≡ at) × (count.r ≡ 0) × (count.key ≢ 0))
    ⊎ ((offset ≡ 11) × (count.at ≡ at) × (count.r ≡ 0) × (count.key ≡ 0) × (count.body ≢ 8))

-- sixteen bytes are there for record 0, and its count field is wrong
pub record IsOtherZero (at : TrackAt) (bytes : List ℕ) (offset : ℕ) : Type 0 where
  pub count : Count
  pub rest : List ℕ
  pub numbers : IsCount count
  pub begins : bytes ≡ count_text count ++ rest
  pub long : 8 ≤ length rest
  pub wrong : IsWrongZeroCount at count offset

-- too few bytes are there, or the count field is wrong
abbrev pub IsWrongZeroAt : TrackAt → List ℕ → ℕ → Type 0
IsWrongZeroAt at bytes offset = ((offset ≡ 5) × (length bytes < 16)) ⊎ IsOtherZero at bytes offset

-- flag and home address stand, and behind them is no record 0
pub record IsWrongZero (at : TrackAt) (slot : List ℕ) (offset : ℕ) : Type 0 where
  pub flag : ℕ
  pub rest : List ℕ
  pub begins : slot ≡ home_text at flag ++ rest
  pub wrong : IsWrongZeroAt at rest offset

-- ---- the records

-- the place in a count field of the first of address and number that is wrong
abbrev pub IsWrongAddress : TrackAt → Count → ℕ → Type 0
IsWrongAddress at count place =
    ((place ≡ 0) × (count.at ≢ at))
    ⊎ ((place ≡ 4) × (count.at ≡ at) × (count.r ≡ 0))

-- which field of a record is wrong, by its place in the record: this is its count field, and so many bytes are left behind it
abbrev pub IsWrongCount : TrackAt → Count → ℕ → ℕ → TrackField → Type 0
IsWrongCount at count left place fields.Address = IsWrongAddress at count place
IsWrongCount at count left place fields.Length = (place ≡ 6) × (count.at ≡ at) × (1 ≤ count.r) × (left < count.key + count.body)
IsWrongCount at count left place _ = ⊥

-- no record stands at the front of the bytes
pub record IsWrongRecord (at : TrackAt) (bytes : List ℕ) (place : ℕ) (field : TrackField) : Type 0 where
  pub count : Count
  pub rest : List ℕ
  pub numbers : IsCount count
  pub begins : bytes ≡ count_text count ++ rest
  pub wrong : IsWrongCount at count (length rest) place field

-- neither a record nor the end mark stands there
abbrev pub IsWrongNext : TrackAt → List ℕ → ℕ → TrackField → Type 0
IsWrongNext at bytes place fields.End = (place ≡ 0) × (length bytes < 8)
IsWrongNext at bytes place field = IsWrongRecord at bytes place field × ¬ Begins end_mark bytes

-- records, and then neither a record nor the end mark
pub record IsWrongBehind (at : TrackAt) (bytes : List ℕ) (place : ℕ) (field : TrackField) : Type 0 where
  pub records : List Rec
  pub rest : List ℕ
  pub within : ℕ
  pub each : All IsRecord records
  pub behind : bytes ≡ records_text at records ++ rest
  pub place_is : place ≡ length (records_text at records) + within
  pub wrong : IsWrongNext at rest within field

-- flag, home address and record 0 stand, and what is behind them is wrong
pub record IsWrongBody (at : TrackAt) (slot : List ℕ) (offset : ℕ) (field : TrackField) : Type 0 where
  pub flag : ℕ
  pub r0 : List ℕ
  pub rest : List ℕ
  pub place : ℕ
  pub zero : length r0 ≡ 8
  pub begins : slot ≡ home_text at flag ++ zero_text at r0 ++ rest
  pub offset_is : offset ≡ 21 + place
  pub wrong : IsWrongBehind at rest place field

-- ---- the slot

-- the first field of the slot that is wrong, and its offset
abbrev pub IsFirstWrong : TrackAt → List ℕ → ℕ → TrackField → Type 0
IsFirstWrong at slot offset fields.Home = (offset ≡ 1) × ((flag : ℕ) → ¬ Begins (home_text at flag) slot)
IsFirstWrong at slot offset fields.Zero = IsWrongZero at slot offset
IsFirstWrong at slot offset field = IsWrongBody at slot offset field

-- what a refusal says
abbrev pub IsTrackFault : TrackAt → List ℕ → CkdFault → Type 0
IsTrackFault at slot (BadTrack offset why) = (field : TrackField) × (why ≡ number_of field) × IsFirstWrong at slot offset field
IsTrackFault at slot NoMemory = Unit {0}
IsTrackFault at slot _ = ⊥

-- a refusal at a place in bytes that begin at this offset
abbrev pub IsFaultAt : (ℕ → TrackField → Type 0) → ℕ → CkdFault → Type 0
IsFaultAt wrong start (BadTrack offset why) = (field : TrackField) × (place : ℕ) × (why ≡ number_of field) × (offset ≡ start + place) × wrong place field
IsFaultAt wrong start NoMemory = Unit {0}
IsFaultAt wrong start _ = ⊥
