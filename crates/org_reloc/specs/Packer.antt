-- What a packer holds while blocks are put on tracks.
use Rattle.std.specs.Prelude.{◌≡◌, map}
use Rattle.org_reloc.specs.declared.packing.Packer.{Packer}
use Rattle.org_reloc.specs.Packing.{track_of}
use Rattle.org_reloc.specs.Filling.{Filling, IsAt, records_on}

-- its full tracks, the records of its current one, and how far that is filled
pub record Shows (packer : Packer) (filling : Filling) : Type 0 where
  pub tracks : packer.tracks ≡ map track_of filling.full
  pub recs : packer.recs ≡ records_on filling.current
  pub cursor : IsAt packer.cursor.device packer.cursor.number packer.cursor.room filling
