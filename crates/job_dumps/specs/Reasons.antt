-- Why a data set isn't dumped.
use Rattle.std.specs.Prelude.{◌≡◌, ◌⊎◌, ◌||◌, Bool, true, false, List, [], ◌∷◌, All, Any}
use Rattle.by_rules.specs.declared.day.Day.{Day}
use Rattle.ckd_image.specs.Device.{heads_of}
use Rattle.dsn_filter.specs.declared.dsn.Dsn.{Dsn}
use Rattle.enq_table.specs.declared.hold.Hold.{Hold}
use Rattle.enq_table.specs.Table.{Conflicts}
use Rattle.set_facts.specs.Facts.{IsUnexpired}
use Rattle.volume_model.specs.Pinned.{IsPinned}
use Rattle.volume_model.specs.Unit.{DataSet, OnlineVolume}
use Rattle.move_core.specs.Stands.{IsGood}
use Rattle.job_turns.specs.job_copies.step_room.Room.{IsFullFor}
use Rattle.job_lines.specs.declared.message.Reason.{Reason}
use Rattle.job_lines.specs.declared.message.Reason.TheVariants as reasons
use Rattle.job_dumps.specs.declared.wish.DumpWish.{DumpWish}

-- what is dumped is changed then: it counts as dumped, or it goes
abbrev pub changes_sets : DumpWish → Bool
changes_sets wish = wish.reset || wish.delete

-- Somebody holds it, so that it can't be changed, or can't be read. Where it is only read, the statement may pass over holds.
abbrev pub IsHeldFrom : List Hold → DumpWish → Dsn → Type 0
IsHeldFrom held wish name = ((changes_sets wish ≡ true) ⊎ (wish.tolerate ≡ false)) × Any (Conflicts name (changes_sets wish)) held

-- it would go and is unexpired, and the statement spares those
abbrev pub IsSparedBy : Day → DumpWish → DataSet → Type 0
IsSparedBy today wish set = (wish.purge ≡ false) × (wish.delete ≡ true) × IsUnexpired set.fields today

-- It would be changed, and its VTOC has no room for stating the free space of the volume. That is asked whether the free space is stated or not.
abbrev pub LacksRoomToChange : DumpWish → OnlineVolume → Type 0
LacksRoomToChange wish volume = (changes_sets wish ≡ true) × IsFullFor volume [] []

-- as far as neither its tracks nor the room in the VTOC are asked
abbrev pub PreventsAtFirst : List Hold → Day → DumpWish → OnlineVolume → Dsn → DataSet → Reason → Type 0
PreventsAtFirst held today wish volume name set reasons.Pinned = IsPinned (heads_of volume.device) set.name set.fields set.extents
PreventsAtFirst held today wish volume name set reasons.Held = IsHeldFrom held wish name
PreventsAtFirst held today wish volume name set reasons.NotExpired = IsSparedBy today wish set
PreventsAtFirst held today wish volume name set _ = ⊥

-- those reasons, in the order in which they are judged
abbrev pub first_reasons : List Reason
first_reasons = reasons.Pinned ∷ reasons.Held ∷ reasons.NotExpired ∷ []

-- why it isn't dumped
abbrev pub PreventsDump : List Hold → Day → DumpWish → OnlineVolume → Dsn → DataSet → Reason → Type 0
PreventsDump held today wish volume name set reasons.BadTrack = ¬ All IsGood set.texts
PreventsDump held today wish volume name set reasons.VtocFull = LacksRoomToChange wish volume
PreventsDump held today wish volume name set reason = PreventsAtFirst held today wish volume name set reason
