-- What a dump says of a data set.
use Rattle.std.specs.Prelude.{◌≡◌, ◌++◌, List, [], ◌∷◌, length, map, replicate}
use Rattle.ckd_image.specs.declared.track.Track.{Track}
use Rattle.dump_fmt.specs.Parts.{DumpPart}
use Rattle.volume_model.specs.Unit.{DataSet, OnlineVolume, Text, good, bad}
use Rattle.move_core.specs.Facts.{Original}
use Rattle.move_core.specs.Steps.{IsOriginal}

-- texts end here, or the first of them is none
abbrev pub EndsHere : List Text → Type 0
EndsHere [] = Unit {0}
EndsHere (good text ∷ texts) = ⊥
EndsHere (bad bytes ∷ texts) = Unit {0}

-- A part says this of an original: the fields of its format 1, with zeros where the extents and the pointer stand, the type of its extents, the number of its
-- tracks, and their texts up to the first track without one.
pub record IsPartOf (original : Original) (part : DumpPart) : Type 0 where
  pub f1_is : part.f1 ≡ original.fields ++ replicate 35 0
  pub kind_is : part.kind ≡ original.kind
  pub tracks_are : part.tracks ≡ length original.texts
  pub rest : List Text
  pub texts_are : original.texts ≡ map good part.texts ++ rest
  pub ends : EndsHere rest

-- the part of a data set
abbrev pub IsPartOfSet : OnlineVolume → DataSet → DumpPart → Type 0
IsPartOfSet volume set part = (original : Original) × IsOriginal volume set original × IsPartOf original part

-- a part under way, and what it is to be: the same but for tracks that don't stand there yet
pub record IsFrontOf (part whole : DumpPart) : Type 0 where
  pub f1_is : part.f1 ≡ whole.f1
  pub tracks_are : part.tracks ≡ whole.tracks
  pub kind_is : part.kind ≡ whole.kind
  pub more : List Track
  pub texts_are : whole.texts ≡ part.texts ++ more
