-- What stands behind the mark of a part, and what isn't that: the first field with which none goes on, or one that is cut.
use Rattle.std.specs.Prelude.{◌≡◌, ◌⊎◌, ℕ, ◌+◌, ◌<◌, ◌≤◌, List, [], ◌∷◌, ◌++◌, length, take, replicate, All, Option, Some, None, IsTrue}
use Rattle.std.specs.Ordering.{is_lt, nat_cmp}
use Rattle.std.specs.Cmp.Lexicographic.{slice_cmp}
use Rattle.byteorder.specs.Endian.{big_bytes}
use Rattle.dump_fmt.specs.Parts.{IsPlaceless}
use Rattle.ckd_image.specs.Bytes.{Begins}
use Rattle.dump_read.specs.declared.part.PartHead.{PartHead}
use Rattle.dump_read.specs.declared.part.PartField.{PartField}
use Rattle.dump_read.specs.declared.part.PartField.TheVariants as fields
use Rattle.dump_read.specs.declared.part.PartStop.{PartStop}
use Rattle.dump_read.specs.declared.part.PartStop.TheVariants.{Wrong, Cut}
use Rattle.dump_read.specs.Fields.{GoesOn, IsFirstWrong, IsFieldFront}

-- where a field is behind the mark
abbrev pub place_of : PartField → ℕ
place_of fields.Name = 0
place_of fields.Format = 44
place_of fields.Count = 59
place_of (fields.Extents k) = 105 + k
place_of fields.Tracks = 140
place_of fields.Kind = 144

-- how many bytes it has; the extents and the pointer behind them are judged byte by byte
abbrev pub length_of : PartField → ℕ
length_of fields.Name = 44
length_of fields.Format = 1
length_of fields.Count = 1
length_of (fields.Extents k) = 1
length_of fields.Tracks = 4
length_of fields.Kind = 1

-- the number of a refusal
abbrev pub why_of : PartField → ℕ
why_of fields.Name = 8
why_of fields.Format = 6
why_of fields.Count = 6
why_of (fields.Extents k) = 6
why_of fields.Tracks = 6
why_of fields.Kind = 6

-- the name is behind this one in the order of their bytes, where one stands before it
abbrev pub IsBehind : Option (List ℕ) → List ℕ → Type 0
IsBehind None name = Unit {0}
IsBehind (Some before) name = IsTrue (is_lt (slice_cmp nat_cmp before name))

-- 44 bytes that may be the next name
pub record IsNextName (before : Option (List ℕ)) (name : List ℕ) : Type 0 where
  pub long : length name ≡ 44
  pub bytes : All (λ b. b ≤ 255) name
  pub order : IsBehind before name

abbrev pub IsKind : ℕ → Type 0
IsKind kind = (kind ≡ 0x01) ⊎ (kind ≡ 0x81)

-- a format 1 without its place, the number of its tracks, and the type of its extents, behind a part with this name
pub record IsPartText (before : Option (List ℕ)) (text : List ℕ) : Type 0 where
  pub f1 : List ℕ
  pub tracks : ℕ
  pub kind : ℕ
  pub name : IsNextName before (take 44 f1)
  pub placeless : IsPlaceless f1
  pub few : tracks ≤ 65535
  pub kind_is : IsKind kind
  pub spelled : text ≡ f1 ++ (big_bytes 4 tracks ++ (kind ∷ []))

-- the extents and the pointer behind them have 35 bytes
abbrev pub IsField : PartField → Type 0
IsField fields.Name = Unit {0}
IsField fields.Format = Unit {0}
IsField fields.Count = Unit {0}
IsField (fields.Extents k) = k < 35
IsField fields.Tracks = Unit {0}
IsField fields.Kind = Unit {0}

-- why no part is read behind its mark
abbrev pub IsPartStop : Option (List ℕ) → List ℕ → PartStop → Type 0
IsPartStop before bytes (Wrong field) = IsField field × IsFirstWrong (IsPartText before) bytes (place_of field) (length_of field)
IsPartStop before bytes Cut = (length bytes < 145) × GoesOn (IsPartText before) bytes

-- ---- the fields, each by itself

-- Why a field isn't read: it is wrong as far as it is there, or cut and not wrong. One that can be spelled in one way is wrong at a byte.
abbrev pub Stops : PartField → (List ℕ → Type 0) → List ℕ → PartStop → Type 0
Stops field Goes bytes (Wrong found) = (found ≡ field) × ¬ Goes (take (length_of field) bytes)
Stops field Goes bytes Cut = (length bytes < length_of field) × Goes bytes

abbrev pub BeginsName : Option (List ℕ) → List ℕ → Type 0
BeginsName before = IsFieldFront (IsNextName before) (λ name. name)

abbrev pub BeginsTracks : List ℕ → Type 0
BeginsTracks = IsFieldFront (λ tracks. tracks ≤ 65535) (big_bytes 4)

abbrev pub BeginsKind : List ℕ → Type 0
BeginsKind = IsFieldFront IsKind (λ kind. kind ∷ [])

-- why some zeros aren't there: another byte at a place, or fewer of them and nothing else
abbrev pub ZerosStop : ℕ → List ℕ → PartStop → Type 0
ZerosStop count bytes (Wrong (fields.Extents k)) = (k < count) × ((b : ℕ) × (rest : List ℕ) × (bytes ≡ replicate k 0 ++ (b ∷ rest)) × ¬ (b ≡ 0))
ZerosStop count bytes (Wrong _) = ⊥
ZerosStop count bytes Cut = (length bytes < count) × (bytes ≡ replicate (length bytes) 0)

-- the bytes begin with such a part
pub record IsPartRead (before : Option (List ℕ)) (bytes : List ℕ) (part : PartHead) : Type 0 where
  pub text : IsPartText before (part.f1 ++ (big_bytes 4 part.tracks ++ (part.kind ∷ [])))
  pub begins : Begins (part.f1 ++ (big_bytes 4 part.tracks ++ (part.kind ∷ []))) bytes
