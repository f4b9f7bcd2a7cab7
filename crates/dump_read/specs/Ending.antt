-- The end of a dump behind its last mark, and why it isn't one.
use Rattle.std.specs.Prelude.{◌≡◌, ◌≢◌, ◌⊎◌, ℕ, ◌+◌, ◌<◌, min, List, [], ◌++◌, length, take, Option}
use Rattle.byteorder.specs.Endian.{big_bytes}
use Rattle.sha2.specs.Sha256.{sha256}
use Rattle.ckd_image.specs.Bytes.{Begins}
use Rattle.dump_fmt.specs.declared.fault.DumpFault.{DumpFault}
use Rattle.dump_fmt.specs.declared.fault.DumpFault.TheVariants.{BadDump, Truncated, DigestDiffers, Reel}
use Rattle.dump_read.specs.declared.ending.CountStop.{CountStop}
use Rattle.dump_read.specs.declared.ending.CountStop.TheVariants.{Wrong, Cut}
use Rattle.dump_read.specs.Feed.{largest_offset}
use Rattle.dump_read.specs.Fields.{GoesOn, IsFirstWrong}
use Rattle.dump_read.specs.Header.{BeginsFixed}
use Rattle.dump_read.specs.Reading.{HeldSuch}

-- the number of whole parts, and that of the tracks in them
abbrev pub both_counts : ℕ → ℕ → List ℕ
both_counts parts tracks = big_bytes 4 parts ++ big_bytes 4 tracks

-- both counts and a digest, whatever it is
abbrev pub IsEnd : ℕ → ℕ → List ℕ → Type 0
IsEnd parts tracks text = (digest : List ℕ) × (length digest ≡ 32) × (text ≡ both_counts parts tracks ++ digest)

-- why the counts aren't read: the one at this place is wrong, or they are cut
abbrev pub IsCountStop : ℕ → ℕ → List ℕ → CountStop → Type 0
IsCountStop parts tracks bytes (Wrong place) = ((place ≡ 0) ⊎ (place ≡ 4)) × IsFirstWrong (IsEnd parts tracks) bytes place 4
IsCountStop parts tracks bytes Cut = (length bytes < 8) × GoesOn (IsEnd parts tracks) bytes

-- bytes don't begin with the right ones, and so one at this place is wrong, or they are cut
abbrev pub IsFixedStop : ℕ → List ℕ → List ℕ → CountStop → Type 0
IsFixedStop place right bytes (Wrong at) = (at ≡ place) × ¬ BeginsFixed right (take (length right) bytes)
IsFixedStop place right bytes Cut = (length bytes < length right) × Begins bytes right

-- the refusal of a count, by where the counts begin and how many bytes there are
abbrev pub count_fault : ℕ → ℕ → CountStop → DumpFault
count_fault start end (Wrong place) = BadDump (min (start + place) largest_offset) 10
count_fault start end Cut = Truncated end

-- behind these bytes a count is wrong
pub record IsBadCount (parts tracks : ℕ) (bytes : List ℕ) (offset why : ℕ) (whole : List ℕ) : Type 0 where
  pub rest : List ℕ
  pub place : ℕ
  pub there : (place ≡ 0) ⊎ (place ≡ 4)
  pub spelled : whole ≡ bytes ++ rest
  pub at : offset ≡ min (length bytes + place) largest_offset
  pub number : why ≡ 10
  pub wrong : IsFirstWrong (IsEnd parts tracks) rest place 4

-- behind these bytes and the end of the dump are more
pub record IsMoreBehind (parts tracks : ℕ) (bytes : List ℕ) (offset why : ℕ) (whole : List ℕ) : Type 0 where
  pub ending : List ℕ
  pub more : List ℕ
  pub spelled : whole ≡ bytes ++ (ending ++ more)
  pub is_end : IsEnd parts tracks ending
  pub some : more ≢ []
  pub at : offset ≡ min (length bytes + 40) largest_offset
  pub number : why ≡ 11

-- behind these bytes the end of a dump is cut
pub record IsShortEnd (parts tracks : ℕ) (bytes : List ℕ) (count : ℕ) (whole : List ℕ) : Type 0 where
  pub rest : List ℕ
  pub spelled : whole ≡ bytes ++ rest
  pub all : count ≡ min (length whole) largest_offset
  pub short : length rest < 40
  pub goes : GoesOn (IsEnd parts tracks) rest

-- behind these bytes is the end of a dump with this digest
pub record HasDigest (parts tracks : ℕ) (bytes digest whole : List ℕ) : Type 0 where
  pub long : length digest ≡ 32
  pub spelled : whole ≡ bytes ++ (both_counts parts tracks ++ digest)

-- the digest of these bytes and both counts
abbrev pub right_digest : ℕ → ℕ → List ℕ → List ℕ
right_digest parts tracks bytes = sha256 (bytes ++ both_counts parts tracks)

-- what a refusal says of what the reel holds, of which these bytes came so far
abbrev pub IsEndFault : ℕ → ℕ → List ℕ → Option (List ℕ) → DumpFault → Type 0
IsEndFault parts tracks bytes held (BadDump offset why) = HeldSuch held (λ whole. IsBadCount parts tracks bytes offset why whole ⊎ IsMoreBehind parts tracks bytes offset why whole)
IsEndFault parts tracks bytes held (Truncated count) = HeldSuch held (IsShortEnd parts tracks bytes count)
IsEndFault parts tracks bytes held (DigestDiffers kept found) = (found ≡ right_digest parts tracks bytes) × (kept ≢ found) × HeldSuch held (HasDigest parts tracks bytes kept)
IsEndFault parts tracks bytes held Reel = Unit {0}
IsEndFault parts tracks bytes held _ = ⊥
