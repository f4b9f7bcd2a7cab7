-- The format 5s among the records of a VTOC.
use Rattle.std.specs.Prelude.{◌≡◌, ℕ, Bool, List, []}
use Rattle.volume_model.specs.declared.place.Placed.{Placed}
use Rattle.volume_model.specs.declared.place.Vtoc.{Vtoc}
use Rattle.volume_model.specs.Check.{records_of, breaches_of}
use Rattle.vtoc_check.specs.declared.directory.Directory.{Directory}
use Rattle.vtoc_check.specs.Sized.{IsSized}
use Rattle.vtoc_layout.specs.Layout.{fives_in_order}

-- some VTOC that breaks no rule has these records, on a device with so many heads, and its format 5s are valid or not
pub record IsOfSoundVtoc (directory : Directory) (valid : Bool) : Type 0 where
  pub vtoc : Vtoc
  pub heads : directory.heads ≡ vtoc.heads
  pub records : directory.records.items ≡ records_of vtoc
  pub validity : valid ≡ vtoc.valid
  pub sized : IsSized vtoc
  pub sound : breaches_of vtoc ≡ []

-- whichever VTOC has them, these are its format 5s in order
abbrev pub AreItsFives : ℕ → List Placed → Bool → List Placed → Type 0
AreItsFives heads records valid fives = (vtoc : Vtoc) → heads ≡ vtoc.heads → records ≡ records_of vtoc → valid ≡ vtoc.valid → fives ≡ fives_in_order vtoc
