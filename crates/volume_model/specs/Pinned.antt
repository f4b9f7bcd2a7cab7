-- Which data sets stay where they are, and how much of one a release keeps.
use Rattle.std.specs.Prelude.{◌≡◌, ◌≢◌, ◌⊎◌, ℕ, ◌+◌, ◌-◌, ◌*◌, ◌%◌, ◌<◌, ◌≤◌, min, ◌==◌, ◌&&◌, nat_le, if◌then◌else◌, List, [], ◌∷◌, length, All, Some, Contains, bit_and, slice_index}
use Rattle.dsn_filter.specs.declared.dsn.Dsn.{Dsn}
use Rattle.dsn_filter.specs.Dsn.{IsDsn}
use Rattle.vol_label.specs.CodePage.{ascii_of}
use Rattle.volume_model.specs.Dscbs.{number_at}
use Rattle.volume_model.specs.Unit.{Extent, DataSet}
use Rattle.ckd_image.specs.Device.{ceil_div}

-- 44 bytes are this name in the code page, filled up with blanks
pub record IsNameOf (name : Dsn) (bytes : List ℕ) : Type 0 where
  pub long : length bytes ≡ 44
  pub characters : (k : ℕ) → k < name.len → ascii_of (slice_index bytes k) ≡ Some (slice_index name.text k)
  pub blanks : (k : ℕ) → name.len ≤ k → k < 44 → slice_index bytes k ≡ 0x40

-- 44 bytes are a data set name in the code page
abbrev pub HasName : List ℕ → Type 0
HasName bytes = (name : Dsn) × IsDsn name × IsNameOf name bytes

-- ---- the fields of a format 1

abbrev pub organization_in : List ℕ → ℕ
organization_in fields = number_at fields 82

-- which of its volumes this is, for a data set of several
abbrev pub sequence_in : List ℕ → ℕ
sequence_in fields = number_at fields 51

-- no organization, sequential, direct, or partitioned
abbrev pub IsMovable : ℕ → Type 0
IsMovable organization = (organization ≡ 0) ⊎ ((organization ≡ 0x4000) ⊎ ((organization ≡ 0x2000) ⊎ (organization ≡ 0x0200)))

abbrev pub IsSequentialOrPartitioned : ℕ → Type 0
IsSequentialOrPartitioned organization = (organization ≡ 0x4000) ⊎ (organization ≡ 0x0200)

-- tracks of data, by tracks or by whole cylinders
abbrev pub IsOfTracks : Extent → Type 0
IsOfTracks extent = extent.kind ≡ 0x01

abbrev pub IsOfCylinders : ℕ → Extent → Type 0
IsOfCylinders heads extent = (extent.kind ≡ 0x81) × (extent.run.first % heads ≡ 0) × (extent.run.len % heads ≡ 0)

-- a data set is of cylinders where it has extents and all of them are on cylinder boundaries, by their types
abbrev pub AreByCylinders : {X : Type 0} → (X → ℕ) → List X → Type 0
AreByCylinders type_of extents = (extents ≢ []) × All (λ extent. type_of extent ≡ 0x81) extents

-- an extent of another type, or of cylinders that aren't whole
pub record HasOtherExtent (heads : ℕ) (extents : List Extent) : Type 0 where
  pub extent : Extent
  pub is_there : Contains extents extent
  pub not_tracks : ¬ IsOfTracks extent
  pub not_cylinders : ¬ IsOfCylinders heads extent

-- the system manages it in a way that isn't kept here: its storage class flags, or an indicator of another kind
abbrev pub IsManaged : List ℕ → Type 0
IsManaged fields = (bit_and (slice_index fields 78) 0x0E ≢ 0) ⊎ (bit_and (slice_index fields 61) 0x08 ≢ 0)

-- it goes on from another volume
abbrev pub GoesOn : List ℕ → Type 0
GoesOn fields = 1 < sequence_in fields

-- A data set is pinned by its name, its format 1 and its extents, so that no command moves it. What its tracks hold doesn't count.
abbrev pub IsPinned : ℕ → List ℕ → List ℕ → List Extent → Type 0
IsPinned heads name fields extents =
    (¬ HasName name)
    ⊎ ((¬ IsMovable (organization_in fields))
    ⊎ (HasOtherExtent heads extents
    ⊎ ((16 < length extents)
    ⊎ (IsManaged fields ⊎ GoesOn fields))))

-- ---- release

-- the last block: its track, counted from the first of the data set, and its record; zeros where there is none
abbrev pub last_track_in : List ℕ → ℕ
last_track_in fields = number_at fields 98

abbrev pub last_record_in : List ℕ → ℕ
last_record_in fields = slice_index fields 100

-- the tracks that are used: all up to the last block's, and one where there is no last block
abbrev pub used_tracks : List ℕ → ℕ
used_tracks fields = if (last_track_in fields == 0) && (last_record_in fields == 0) then 1 else last_track_in fields + 1

-- So many tracks from the front of extents, and where they end within an extent of cylinders, the rest of the cylinder too.
abbrev pub whole_tracks : ℕ → ℕ → List Extent → ℕ
whole_tracks heads count [] = 0
whole_tracks heads count (extent ∷ extents) =
    if nat_le extent.run.len count then extent.run.len + whole_tracks heads (count - extent.run.len) extents
    else if extent.kind == 0x81 then min extent.run.len (ceil_div count heads * heads)
    else count

-- the tracks of a data set that a release keeps
abbrev pub kept_tracks : ℕ → DataSet → ℕ
kept_tracks heads set = whole_tracks heads (used_tracks set.fields) set.extents
