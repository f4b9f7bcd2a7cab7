-- A part of a dump that is to be restored on a volume, and the data set that it replaces.
use Rattle.std.specs.Prelude.{◌≡◌, List, true, take, map, Contains, ℕ}
use Rattle.ckd_image.specs.declared.device.Device.{Device}
use Rattle.dsn_filter.specs.declared.dsn.Dsn.{Dsn}
use Rattle.dump_fmt.specs.Parts.{DumpPart}
use Rattle.move_core.specs.Facts.{Original}
use Rattle.volume_model.specs.Pinned.{IsNameOf}
use Rattle.volume_model.specs.Reads.{fields_of_1}
use Rattle.volume_model.specs.Unit.{DataSet, OnlineVolume, good}
use Rattle.job_restores.specs.declared.wish.RestoreWish.{RestoreWish}

-- a part of a dump of the volume's device, the volume on which it is to be restored, the name that it gets there, and what the statement asks
pub record Case : Type 0 where
  pub to : OnlineVolume
  pub part : DumpPart
  pub new : Dsn
  pub wish : RestoreWish

-- the name of the data set that was dumped
abbrev pub name_in : DumpPart → List ℕ
name_in part = take 44 part.f1

-- what a copy of a part is made of
abbrev pub original_of : Device → DumpPart → Original
original_of device part = record { device = device; fields = fields_of_1 part.f1; kind = part.kind; texts = map good part.texts }

-- a data set of the new name stands on the volume
pub record IsNamesake (case : Case) (other : DataSet) : Type 0 where
  pub there : Contains case.to.sets other
  pub name_is : IsNameOf case.new other.name

-- the part replaces it, since the statement asks for that
pub record Replaces (case : Case) (other : DataSet) : Type 0 where
  pub asked : case.wish.replace ≡ true
  pub namesake : IsNamesake case other

abbrev pub ReplacesSome : Case → Type 0
ReplacesSome case = (other : DataSet) × Replaces case other
