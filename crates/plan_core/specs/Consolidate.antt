-- Where all tracks of a data set have room in one run.
use Rattle.std.specs.Prelude.{◌≡◌, ◌⊎◌, ℕ, ◌≤◌, List, length, Contains}
use Rattle.dsn_filter.specs.declared.dsn.Dsn.{Dsn}
use Rattle.free_map.specs.Place.{IsPlace, IsLowestPlace}
use Rattle.volume_model.specs.Pinned.{IsNameOf, AreByCylinders}
use Rattle.volume_model.specs.Unit.{Extent, tracks_of}
use Rattle.vtoc_core.specs.declared.volume.Row.{Row}
use Rattle.vtoc_core.specs.declared.volume.Volume.{Volume}

-- a row of a data set name
abbrev pub IsRowOf : Volume → Dsn → Row → Type 0
IsRowOf volume name row = Contains volume.rows row × IsNameOf name row.name

-- extents have a track, and no more than the largest volume
abbrev pub IsSized : List Extent → Type 0
IsSized extents = (1 ≤ length (tracks_of extents)) × (length (tracks_of extents) ≤ 65535)

-- one new extent begins at a multiple of this many tracks, and has a multiple of them: of a cylinder's where all extents are of cylinders
abbrev pub IsStepOf : ℕ → List Extent → ℕ → Type 0
IsStepOf heads extents step =
    (AreByCylinders (λ extent. extent.kind) extents × (step ≡ heads)) ⊎ ((¬ AreByCylinders (λ extent. extent.kind) extents) × (step ≡ 1))

-- the lowest track from which all tracks of extents have room, in a set of tracks
abbrev pub IsPlaceFor : (ℕ → Type 0) → ℕ → List Extent → ℕ → Type 0
IsPlaceFor set heads extents start = (step : ℕ) × IsStepOf heads extents step × IsLowestPlace set (length (tracks_of extents)) step start

-- there is none
abbrev pub HasNoPlace : (ℕ → Type 0) → ℕ → List Extent → Type 0
HasNoPlace set heads extents = (step start : ℕ) → IsStepOf heads extents step → ¬ IsPlace set (length (tracks_of extents)) step start
