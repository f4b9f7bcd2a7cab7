-- The records of a VTOC that breaks no rule, by what they are used for.
use Rattle.std.specs.Prelude.{◌≡◌, ◌+◌, List, [], length, map, filter, sum_by}
use Rattle.volume_model.specs.declared.place.Placed.{Placed}
use Rattle.volume_model.specs.declared.place.Vtoc.{Vtoc}
use Rattle.volume_model.specs.Dscbs.{format_of, is_f4}
use Rattle.volume_model.specs.Directory.{AreInOrder, rows_of}
use Rattle.volume_model.specs.Check.{records_of, fives_of, breaches_of}
use Rattle.vtoc_check.specs.Places.{AreShort}
use Rattle.vtoc_core.specs.declared.volume.Row.{Row}
use Rattle.vtoc_core.specs.Loaded.{row_in, records_for}
use Rattle.vtoc_load.specs.LoadedVtoc.{free_records_of}

-- the format 4s of a VTOC
abbrev pub fours_of : Vtoc → List Placed
fours_of vtoc = filter (λ placed. is_f4 (format_of placed.bytes)) (records_of vtoc)

-- Its records are the free ones, the format 4s, the format 5s, and for each row a format 1 and its format 3s.
abbrev pub RecordsAreCounted : Type 0
RecordsAreCounted = (vtoc : Vtoc) (rows : List Row) → AreShort vtoc.tracks → breaches_of vtoc ≡ [] → AreInOrder (rows_of vtoc.heads (records_of vtoc)) (map row_in rows)
    → length (free_records_of vtoc) + length (fours_of vtoc) + length (fives_of vtoc) + sum_by records_for rows ≡ length (records_of vtoc)
