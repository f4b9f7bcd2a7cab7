-- What stands against a refit of a partitioned data set.
use Rattle.std.proofs.Common.{subst, List}
use Rattle.ckd_image.specs.declared.device.Device.{Device}
use Rattle.ckd_image.specs.declared.track.Track.{Track}
use Rattle.org_reloc.specs.declared.block.Block.{Block}
use Rattle.org_reloc.specs.declared.fault.RelocFault.{RelocFault}
use Rattle.org_reloc.specs.declared.fault.RelocFault.TheVariants.{NotRelocatable, BlockTooLong, NoMemory}
use Rattle.org_reloc.specs.declared.fault.Why.{Why}
use Rattle.org_reloc.specs.declared.fault.Why.TheVariants as whys
use Rattle.org_reloc.specs.declared.partitioned.Movable.{Movable}
use Rattle.org_reloc.specs.Partitioned.{HasFault, StandsAgainst, IsPartitionedRefusal}
use Rattle.org_reloc.specs.Refusal.{IsFirstTooLong, TakeTooMany}
use Rattle.org_reloc.specs.Taken.{IsTaken, IsTakingRefusal, IsPutRefusal}

against : (device : Device) (tracks : List Track) (cause : Why) → HasFault tracks cause → StandsAgainst device tracks cause
against device tracks whys.UserTtrs h = h
against device tracks whys.Directory h = h
against device tracks whys.NoEnd h = h
against device tracks whys.Long h = absurd h
against device tracks whys.Org h = h

pub taking_refused : (device : Device) (tracks : List Track) (e : RelocFault) → IsTakingRefusal tracks e → IsPartitionedRefusal device tracks e
taking_refused device tracks (NotRelocatable why) h = (h.0, h.1, against device tracks h.0 h.2)
taking_refused device tracks (BlockTooLong len largest) h = absurd h
taking_refused device tracks NoMemory h = tt

pub put_refused : (device : Device) (tracks : List Track) (movable : Movable) (e : RelocFault) → IsTaken tracks movable → IsPutRefusal device movable e → IsPartitionedRefusal device tracks e
put_refused device tracks movable (NotRelocatable why) t h = (
  whys.Long,
  h.0,
  record {
    pages = movable.pages;
    behind = t.behind;
    members = t.members;
    movable = t.sound;
    many = subst (TakeTooMany device) t.blocks_are h.1;
  },
)
put_refused device tracks movable (BlockTooLong len largest) t h = record {
  pages = movable.pages;
  behind = t.behind;
  members = t.members;
  movable = t.sound;
  first = subst (λ (l : List Block). IsFirstTooLong device l len largest) t.blocks_are h;
}
put_refused device tracks movable NoMemory t h = tt
