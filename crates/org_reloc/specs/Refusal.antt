-- Why a data set isn't fitted to a device.
use Rattle.std.specs.Prelude.{◌≡◌, ℕ, ◌<◌, List, ◌∷◌, ◌++◌, length, All}
use Rattle.ckd_image.specs.declared.device.Device.{Device}
use Rattle.ckd_image.specs.Device.{largest_of}
use Rattle.org_reloc.specs.declared.block.Block.{Block}
use Rattle.org_reloc.specs.declared.fault.RelocFault.{RelocFault}
use Rattle.org_reloc.specs.declared.fault.RelocFault.TheVariants.{NotRelocatable, BlockTooLong, NoMemory}
use Rattle.org_reloc.specs.declared.fault.Why.{Why}
use Rattle.org_reloc.specs.declared.fault.Why.TheVariants as whys
use Rattle.org_reloc.specs.Packing.{FitsAlone, AreGrouped}

-- the number of a cause in a refusal
abbrev pub number_of : Why → ℕ
number_of whys.Org = 1
number_of whys.NoEnd = 2
number_of whys.Directory = 3
number_of whys.UserTtrs = 4
number_of whys.Long = 5

-- the first of the blocks that no track of the device takes; its length, and that of the longest without a key
pub record IsFirstTooLong (device : Device) (blocks : List Block) (len largest : ℕ) : Type 0 where
  pub before : List Block
  pub block : Block
  pub behind : List Block
  pub spelled : blocks ≡ before ++ block ∷ behind
  pub others_fit : All (FitsAlone device) before
  pub too_long : ¬ FitsAlone device block
  pub len_is : len ≡ length block.body
  pub largest_is : largest ≡ largest_of device

-- the blocks take more tracks than a data set may have
pub record TakeTooMany (device : Device) (blocks : List Block) : Type 0 where
  pub groups : List (List Block)
  pub grouped : AreGrouped device blocks groups
  pub many : 65535 < length groups

-- what a refusal of a list of blocks says
abbrev pub IsLengthRefusal : Device → List Block → RelocFault → Type 0
IsLengthRefusal device blocks (BlockTooLong len largest) = IsFirstTooLong device blocks len largest
IsLengthRefusal device blocks _ = ⊥

abbrev pub IsLongRefusal : Device → List Block → RelocFault → Type 0
IsLongRefusal device blocks (NotRelocatable why) = (why ≡ number_of whys.Long) × TakeTooMany device blocks
IsLongRefusal device blocks NoMemory = Unit {0}
IsLongRefusal device blocks (BlockTooLong len largest) = ⊥
