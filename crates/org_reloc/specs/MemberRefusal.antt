-- Why the members of a partitioned data set can't be taken.
use Rattle.std.specs.Prelude.{◌≡◌, ℕ, List}
use Rattle.ckd_image.specs.declared.track.Track.{Track}
use Rattle.org_reloc.specs.declared.place.Place.{Place}
use Rattle.org_reloc.specs.declared.fault.RelocFault.{RelocFault}
use Rattle.org_reloc.specs.declared.fault.RelocFault.TheVariants.{NotRelocatable, BlockTooLong, NoMemory}
use Rattle.org_reloc.specs.declared.fault.Why.TheVariants as whys
use Rattle.org_reloc.specs.Refusal.{number_of}
use Rattle.std.specs.List.{Contains}
use Rattle.org_reloc.specs.Member.{place_of_number, IsEndless}

-- the member at a place that names a record has no end of file
abbrev pub IsMemberRefusal : List Track → Place → RelocFault → Type 0
IsMemberRefusal tracks place (NotRelocatable why) = (why ≡ number_of whys.NoEnd) × IsEndless tracks place
IsMemberRefusal tracks place (BlockTooLong len largest) = ⊥
IsMemberRefusal tracks place NoMemory = Unit {0}

-- one of them hasn't
pub record HasEndless (tracks : List Track) (numbers : List ℕ) : Type 0 where
  pub number : ℕ
  pub among : Contains numbers number
  pub endless : IsEndless tracks (place_of_number number)

abbrev pub IsMembersRefusal : List Track → List ℕ → RelocFault → Type 0
IsMembersRefusal tracks numbers (NotRelocatable why) = (why ≡ number_of whys.NoEnd) × HasEndless tracks numbers
IsMembersRefusal tracks numbers (BlockTooLong len largest) = ⊥
IsMembersRefusal tracks numbers NoMemory = Unit {0}
