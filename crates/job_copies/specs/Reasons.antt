-- Why a data set isn't copied, as far as neither its tracks nor places for its copy are asked.
use Rattle.std.specs.Prelude.{◌≡◌, ◌≢◌, ◌⊎◌, true, false, List, [], ◌∷◌, Any}
use Rattle.by_rules.specs.declared.day.Day.{Day}
use Rattle.ckd_image.specs.Device.{heads_of}
use Rattle.enq_table.specs.declared.hold.Hold.{Hold}
use Rattle.enq_table.specs.Table.{Conflicts}
use Rattle.set_facts.specs.Facts.{IsUnexpired}
use Rattle.volume_model.specs.Pinned.{IsPinned}
use Rattle.volume_model.specs.Unit.{DataSet}
use Rattle.job_lines.specs.declared.message.Reason.{Reason}
use Rattle.job_lines.specs.declared.message.Reason.TheVariants as reasons
use Rattle.job_copies.specs.Case.{Case, IsOwn, IsNamesake, Replaces, ReplacesSome}

-- it is pinned, or the one that is replaced
abbrev pub IsFixed : Case → Type 0
IsFixed case = IsPinned (heads_of case.from.device) case.set.name case.set.fields case.set.extents ⊎ ((other : DataSet) × Replaces case other × IsPinned (heads_of case.to.device) other.name other.fields other.extents)

-- Somebody holds its name, so that it can't be deleted, or can't be read. Where it is only read, the statement may pass over holds.
abbrev pub IsOriginHeld : List Hold → Case → Type 0
IsOriginHeld held case = ((case.wish.delete ≡ true) ⊎ (case.wish.tolerate ≡ false)) × Any (Conflicts case.name case.wish.delete) held

-- Somebody holds the copy's name. It counts as changed where it is another than its origin's, or something is replaced.
abbrev pub IsCopyHeld : List Hold → Case → Type 0
IsCopyHeld held case = ((case.new ≢ case.name) ⊎ ReplacesSome case) × Any (Conflicts case.new true) held

-- one that is to be deleted or replaced is unexpired, and the statement spares those
abbrev pub IsSpared : Day → Case → Type 0
IsSpared today case =
    (case.wish.purge ≡ false)
    × (((case.wish.delete ≡ true) × IsUnexpired case.set.fields today) ⊎ ((other : DataSet) × Replaces case other × IsUnexpired other.fields today))

-- the copy's name is taken, and what has it isn't to be replaced, or is its origin
abbrev pub IsNameTaken : Case → Type 0
IsNameTaken case = ((case.wish.replace ≡ false) × ((other : DataSet) × IsNamesake case other)) ⊎ IsOwn case

abbrev pub PreventsAtFirst : List Hold → Day → Case → Reason → Type 0
PreventsAtFirst held today case reasons.Pinned = IsFixed case
PreventsAtFirst held today case reasons.Held = IsOriginHeld held case ⊎ IsCopyHeld held case
PreventsAtFirst held today case reasons.NotExpired = IsSpared today case
PreventsAtFirst held today case reasons.NameExists = IsNameTaken case
PreventsAtFirst held today case _ = ⊥

-- those reasons, in the order in which they are judged
abbrev pub first_reasons : List Reason
first_reasons = reasons.Pinned ∷ reasons.Held ∷ reasons.NotExpired ∷ reasons.NameExists ∷ []
