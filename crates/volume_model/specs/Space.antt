-- The tracks of a volume: which are usable, which are used, and how the free ones lie.
use Rattle.std.specs.Prelude.{ℕ, ◌+◌, ◌-◌, ◌*◌, max, Bool, ◌==◌, ◌&&◌, ◌||◌, not, nat_lt, nat_le, if◌then◌else◌, List, ◌∷◌, ◌++◌, map, filter, fold}
use Rattle.std.specs.List.{flat_map, list_any}
use Rattle.ckd_image.specs.declared.track.TrackAt.{TrackAt}
use Rattle.volume_model.specs.declared.extent.ExtentField.{ExtentField}
use Rattle.volume_model.specs.declared.place.Placed.{Placed}
use Rattle.volume_model.specs.Dscbs.{format_of, is_f5, extents_of, entry_offsets, number_at}
use Rattle.free_map.specs.declared.run.Run.{Run}
use Rattle.std.specs.Prelude.{slice_index}
use Rattle.ckd_image.specs.Device.{ceil_div}

-- the track behind a run
abbrev pub end_of : Run → ℕ
end_of run = run.first + run.len

abbrev pub has_track : ℕ → Run → Bool
has_track track run = nat_le run.first track && nat_lt track (end_of run)

-- some track is in both
abbrev pub overlap : Run → Run → Bool
overlap a b = nat_lt a.first (end_of b) && nat_lt b.first (end_of a)

-- the number of the track at an address
abbrev pub track_at : ℕ → TrackAt → ℕ
track_at heads at = at.cylinder * heads + at.head

-- an extent is a run below the end of the volume: its heads are there, and its last track isn't before its first
abbrev pub is_run : ℕ → ℕ → ExtentField → Bool
is_run heads limit extent =
    nat_lt extent.first.head heads && nat_lt extent.last.head heads
    && nat_le (track_at heads extent.first) (track_at heads extent.last) && nat_lt (track_at heads extent.last) limit

abbrev pub run_of : ℕ → ExtentField → Run
run_of heads extent =
    record { first = track_at heads extent.first; len = track_at heads extent.last + 1 - track_at heads extent.first }

-- the tracks of a DSCB's extents; one that is no run has none
abbrev pub runs_of : ℕ → ℕ → List ℕ → List Run
runs_of heads limit bytes = map (run_of heads) (filter (is_run heads limit) (extents_of bytes))

-- the tracks of all extents
abbrev pub all_extents : ℕ → ℕ → List Placed → List Run
all_extents heads limit records = flat_map (λ placed. runs_of heads limit placed.bytes) records

-- an entry of a format 5: a track, and full cylinders and more tracks from it on
abbrev pub entry_at : ℕ → List ℕ → ℕ → Run
entry_at heads bytes offset =
    record { first = number_at bytes offset; len = number_at bytes (offset + 2) * heads + slice_index bytes (offset + 4) }

-- the entries of a format 5, without empty ones
abbrev pub entries_of : ℕ → List ℕ → List Run
entries_of heads bytes = filter (λ entry. nat_lt 0 entry.len) (map (entry_at heads bytes) entry_offsets)

abbrev pub all_entries : ℕ → List Placed → List Run
all_entries heads records = flat_map (λ placed. entries_of heads placed.bytes) (filter (λ placed. is_f5 (format_of placed.bytes)) records)

-- the greatest end of runs, and of track 0
abbrev pub greatest_end : List Run → ℕ
greatest_end runs = fold (λ end run. max end (end_of run)) 1 runs

-- The usable tracks. Where format 5 is valid they end behind the last track that is used or stated free; otherwise they
-- are those of the volume without the alternate tracks, in whole cylinders, but no fewer than the used ones.
abbrev pub usable_of : Bool → ℕ → ℕ → ℕ → Run → List Run → List Run → ℕ
usable_of valid heads limit alternates vtoc extents entries =
    if valid then greatest_end (vtoc ∷ extents ++ entries)
    else max (greatest_end (vtoc ∷ extents)) (limit - heads * ceil_div alternates heads)

-- a track is used: track 0, one of the VTOC, or one of an extent
abbrev pub is_used : Run → List Run → ℕ → Bool
is_used vtoc extents track = (track == 0) || has_track track vtoc || list_any (has_track track) extents

abbrev pub is_free : ℕ → Run → List Run → ℕ → Bool
is_free usable vtoc extents track = nat_lt track usable && not (is_used vtoc extents track)
