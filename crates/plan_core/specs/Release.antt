-- How much of a data set a release keeps.
use Rattle.std.specs.Prelude.{◌≡◌, ℕ, min, [], ◌∷◌}
use Rattle.volume_model.specs.Pinned.{IsOfTracks, used_tracks, whole_tracks, kept_tracks}
use Rattle.volume_model.specs.Reads.{fields_of_1}
use Rattle.volume_model.specs.Unit.{Extent, DataSet}
use Rattle.vtoc_core.specs.declared.volume.Row.{Row}
use Rattle.plan_core.specs.Extents.{extents_at}

-- the tracks that a release keeps of a row's data set
abbrev pub kept_of : ℕ → Row → ℕ
kept_of heads row = whole_tracks heads (used_tracks (fields_of_1 row.f1)) (extents_at heads row.extents)

-- A release of a data set of one extent of tracks keeps the used ones, and no more than there are.
abbrev pub KeptOfTracks : Type 0
KeptOfTracks =
    (heads : ℕ) (set : DataSet) (extent : Extent) → set.extents ≡ extent ∷ [] → IsOfTracks extent
    → kept_tracks heads set ≡ min extent.run.len (used_tracks set.fields)
