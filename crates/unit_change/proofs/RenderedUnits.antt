-- A unit on which a change was rendered and written is the volume after that change.
use Rattle.std.proofs.Common.{◌≤◌, length, false, arith}
use Rattle.unit_change.specs.Changed.{RenderedUnitsStand}
use Rattle.unit_change.proofs.FormatFour.{home_of}
use Rattle.unit_change.proofs.FormatFourKept.{keeps_four}
use Rattle.unit_change.proofs.LoadedTracks.{four}
use Rattle.unit_change.proofs.UnitLoads.{head_stands, label_stands, four_short, was_loaded}
use Rattle.unit_change.proofs.ChangedUnits.{stands_after}

pub rendered_units : RenderedUnitsStand
rendered_units head blocks old new image label before loaded vtoc_slots change rendered texts of may no_mark next loads written slots_after new_short put_texts =
    let vtoc = of.loaded_is.vtoc in
    let format_4 = four of.loaded_is of.few (four_short of) in
    let short : length (new (home_of image label.vtoc)) ≤ 65536 = new_short (home_of image label.vtoc) (omega (arith, (label_stands of).text.inside.1, (head_stands of).tracks_are)) in
    stands_after of new change rendered texts may no_mark next loads slots_after new_short put_texts
    (keeps_four image label old new false false vtoc_slots loaded change rendered vtoc format_4 (was_loaded of) no_mark (written image label old false vtoc format_4 (was_loaded of)) slots_after (four_short of)
    short)
