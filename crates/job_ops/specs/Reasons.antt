-- Why a data set that was selected isn't processed.
use Rattle.std.specs.Prelude.{◌≡◌, ◌⊎◌, true, List, [], All, Any}
use Rattle.dsn_filter.specs.declared.dsn.Dsn.{Dsn}
use Rattle.enq_table.specs.declared.hold.Hold.{Hold}
use Rattle.enq_table.specs.Table.{Conflicts}
use Rattle.volume_model.specs.Unit.{DataSet, OnlineVolume}
use Rattle.move_core.specs.Stands.{IsGood}
use Rattle.dump_sets.specs.job_turns.job_copies.step_room.Room.{IsFullFor}
use Rattle.job_lines.specs.declared.message.Reason.{Reason}
use Rattle.job_lines.specs.declared.message.Reason.TheVariants as reasons

-- somebody holds the name, so that it can't be changed
abbrev pub IsHeld : List Hold → Dsn → Type 0
IsHeld held name = Any (Conflicts name true) held

-- The VTOC has no room for a change; or, where the free space isn't stated, none for stating it, which comes first. Whether it is stated makes no difference to
-- the room for another change.
abbrev pub LacksRoomFor : OnlineVolume → List DataSet → List DataSet → Type 0
LacksRoomFor volume gone put = ((volume.repair ≡ true) × IsFullFor volume [] []) ⊎ IsFullFor volume gone put

-- What prevents that a data set is changed which stays on its volume: it is one that stays as it is, it is held, one of its tracks has no text, there is no place
-- for it, or no room in the VTOC.
abbrev pub PreventsInPlace : List Hold → Dsn → DataSet → (stays no_place no_room : Type 0) → Reason → Type 0
PreventsInPlace held name set stays no_place no_room reasons.Pinned = stays
PreventsInPlace held name set stays no_place no_room reasons.Held = IsHeld held name
PreventsInPlace held name set stays no_place no_room reasons.BadTrack = ¬ All IsGood set.texts
PreventsInPlace held name set stays no_place no_room reasons.NoSpace = no_place
PreventsInPlace held name set stays no_place no_room reasons.VtocFull = no_room
PreventsInPlace held name set stays no_place no_room _ = ⊥
