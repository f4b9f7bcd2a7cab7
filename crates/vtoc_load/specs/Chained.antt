-- The format 3s of a VTOC that breaks no rule.
use Rattle.std.specs.Prelude.{◌≡◌, ◌↔◌, List, [], length, filter, Contains}
use Rattle.volume_model.specs.declared.place.Placed.{Placed}
use Rattle.volume_model.specs.declared.place.Vtoc.{Vtoc}
use Rattle.volume_model.specs.Dscbs.{format_of, is_f3}
use Rattle.volume_model.specs.Check.{records_of, reached_3s, breaches_of}
use Rattle.vtoc_check.specs.Places.{AreShort}
use Rattle.vtoc_layout.specs.Layout.{AreDistinct}

-- the format 3s of a VTOC
abbrev pub threes_of : Vtoc → List Placed
threes_of vtoc = filter (λ placed. is_f3 (format_of placed.bytes)) (records_of vtoc)

-- each of these records is one of the others, each once, and the other way round
pub record AreEachOnce (records others : List Placed) : Type 0 where
  pub same : (placed : Placed) → Contains records placed ↔ Contains others placed
  pub once : AreDistinct others
  pub count : length others ≡ length records

-- In a VTOC that breaks no rule each format 3 stands in the chain of exactly one data set, and there once.
abbrev pub ChainsAreApart : Type 0
ChainsAreApart = (vtoc : Vtoc) → AreShort vtoc.tracks → breaches_of vtoc ≡ [] → AreEachOnce (threes_of vtoc) (reached_3s vtoc)
