-- What stays the same over a run, and what a pool shows of itself.
use Rattle.std.specs.Prelude.{◌≡◌, ℕ, List, Option, Some, None}
use Rattle.ckd_image.specs.declared.device.Device.{Device}
use Rattle.dasd_pool.specs.Disk.{Shape, Disk}
use Rattle.dasd_pool.specs.declared.pool.Pool.{Ghosts}
use Rattle.dd_names.specs.declared.dd.DdName.{DdName}
use Rattle.vol_label.specs.declared.serial.Serial.{Serial}
use Rattle.volume_model.specs.Sound.{Slots}
use Rattle.volume_model.specs.Unit.{Text}

-- What a copy is made of: the device for which its texts are, the fields of its format 1, the type of the extents that a copy gets, which is that of
-- cylinders (0x81) or of tracks (0x01), and the texts.
pub record Original : Type 0 where
  pub device : Device
  pub fields : List ℕ
  pub kind : ℕ
  pub texts : List Text

-- What the inputs of a run hold: under a name and a number this part of a dump, and under a name a full dump, which gives the slots of a volume with
-- any serial in its label.
pub record Inputs : Type 0 where
  pub part : DdName → ℕ → Option Original
  pub full : DdName → Option (Serial → Slots)

-- no input holds a dump
abbrev pub no_inputs : Inputs
no_inputs = record { part = λ input number. None; full = λ input. None }

-- the shape of a pool, the serials of its volumes, how many entries a commit may have, and what the inputs hold
pub record Facts : Type 0 where
  pub shape : Shape
  pub names : List Serial
  pub room : ℕ
  pub inputs : Inputs

-- the inputs hold this, where something is given, and else anything
abbrev pub HasInputs : Option Inputs → Facts → Type 0
HasInputs None facts = Unit {0}
HasInputs (Some inputs) facts = facts.inputs ≡ inputs

-- what a pool shows: its shape, its disk and its count of faults
pub record Shown : Type 1 where
  pub shape : Shape
  pub disk : Disk
  pub faults : ℕ

abbrev pub shown : {P : Type 0} → Ghosts P → P → Shown
shown pools pool = record { shape = pools.shape pool; disk = pools.disk pool; faults = pools.faults pool }
