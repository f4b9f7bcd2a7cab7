-- Why a part of a dump isn't restored, as far as no places for it are asked.
use Rattle.std.specs.Prelude.{◌≡◌, ◌⊎◌, true, false, List, [], ◌∷◌, Any}
use Rattle.by_rules.specs.declared.day.Day.{Day}
use Rattle.ckd_image.specs.Device.{heads_of}
use Rattle.enq_table.specs.declared.hold.Hold.{Hold}
use Rattle.enq_table.specs.Table.{Conflicts}
use Rattle.set_facts.specs.Facts.{IsUnexpired}
use Rattle.volume_model.specs.Pinned.{IsPinned}
use Rattle.volume_model.specs.Reads.{fields_of_1}
use Rattle.volume_model.specs.Unit.{DataSet}
use Rattle.job_lines.specs.declared.message.Reason.{Reason}
use Rattle.job_lines.specs.declared.message.Reason.TheVariants as reasons
use Rattle.job_restores.specs.Case.{Case, IsNamesake, Replaces, name_in}

-- its format 1 says that no command moves it, a part having no extents; or the one that it replaces is pinned
abbrev pub IsFixed : Case → Type 0
IsFixed case =
    IsPinned (heads_of case.to.device) (name_in case.part) (fields_of_1 case.part.f1) []
    ⊎ ((other : DataSet) × Replaces case other × IsPinned (heads_of case.to.device) other.name other.fields other.extents)

-- somebody holds the name that it gets, which counts as changed also where nothing is replaced
abbrev pub IsHeld : List Hold → Case → Type 0
IsHeld held case = Any (Conflicts case.new true) held

-- the one that it replaces is unexpired, and the statement spares those
abbrev pub IsSpared : Day → Case → Type 0
IsSpared today case = (case.wish.purge ≡ false) × ((other : DataSet) × Replaces case other × IsUnexpired other.fields today)

-- its name is taken, and what has it isn't to be replaced
abbrev pub IsNameTaken : Case → Type 0
IsNameTaken case = (case.wish.replace ≡ false) × ((other : DataSet) × IsNamesake case other)

abbrev pub PreventsAtFirst : List Hold → Day → Case → Reason → Type 0
PreventsAtFirst held today case reasons.Pinned = IsFixed case
PreventsAtFirst held today case reasons.Held = IsHeld held case
PreventsAtFirst held today case reasons.NotExpired = IsSpared today case
PreventsAtFirst held today case reasons.NameExists = IsNameTaken case
PreventsAtFirst held today case _ = ⊥

-- those reasons, in the order in which they are judged
abbrev pub first_reasons : List Reason
first_reasons = reasons.Pinned ∷ reasons.Held ∷ reasons.NotExpired ∷ reasons.NameExists ∷ []
