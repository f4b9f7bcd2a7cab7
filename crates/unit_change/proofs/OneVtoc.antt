-- The slots of a unit read as one VTOC at most, and its check fails in one way.
use Rattle.std.proofs.Common.{◌≡◌, ℕ, ◌+◌, ◌<◌, ◌≤◌, List, [], length, Bool, arith}
use Rattle.ckd_image.specs.declared.head.Head.{Head}
use Rattle.ckd_image.specs.declared.track.Cchhr.{Cchhr}
use Rattle.ckd_image.specs.Device.{heads_of}
use Rattle.volume_model.specs.declared.place.Breach.{Breach}
use Rattle.volume_model.specs.declared.place.Vtoc.{Vtoc}
use Rattle.volume_model.specs.Check.{breaches_of}
use Rattle.volume_model.specs.Sound.{Slots, IsFormat4, IsVtoc, IsCheckFault}
use Rattle.unit_change.specs.Described.{AreShort}
use Rattle.unit_change.proofs.FormatFour.{home_of, home_in, run_inside}
use Rattle.volume_model.proofs.OneVtoc as vtocs
use Rattle.volume_model.proofs.OneVtoc.{one_format_4}
use Rattle.volume_model.proofs.OneCheck as checks
use Rattle.volume_model.proofs.OneCheck.{AreAlike}

-- ---- the VTOC

module _ (head : Head) (blocks : ℕ) (slots : Slots) (pointer : Cchhr) (sliding : Bool) (whole : head.tracks ≡ blocks) (short : AreShort blocks slots) where
  -- a VTOC stands on short slots
  slots_short : (vtoc : Vtoc) → IsVtoc head slots pointer sliding vtoc → (k : ℕ) → k < vtoc.run.len → length (slots (vtoc.run.first + k)) ≤ 65536
  slots_short vtoc is k less = short (vtoc.run.first + k) (omega (arith, less, (run_inside head slots pointer sliding vtoc is).1, whole))

  pub home_short : (vtoc : Vtoc) → IsVtoc head slots pointer sliding vtoc → length (slots (home_of head pointer)) ≤ 65536
  home_short vtoc is = short (home_of head pointer) (omega (arith, (home_in head slots pointer sliding vtoc is).1, (run_inside head slots pointer sliding vtoc is).1, whole))

  pub one_vtoc : (a b : Vtoc) (one : IsVtoc head slots pointer sliding a) (other : IsVtoc head slots pointer sliding b) → (a ≡ b) × (one.bytes ≡ other.bytes)
  one_vtoc a b one other = vtocs.one_vtoc head slots pointer sliding a b (home_short a one) (slots_short a one) one other

  -- ---- the check

  -- the format 4s are one where the label's track is one of the image's
  module _ (inside : home_of head pointer < head.tracks) where
    four_same : (a b : List ℕ) → IsFormat4 (heads_of head.device) slots pointer a → IsFormat4 (heads_of head.device) slots pointer b → a ≡ b
    four_same a b one other = one_format_4 (heads_of head.device) slots pointer a b (short (home_of head pointer) (omega (arith, inside, whole))) one other

    same_vtoc : (a b : Vtoc) → IsVtoc head slots pointer sliding a → IsVtoc head slots pointer sliding b → a ≡ b
    same_vtoc a b one other = (one_vtoc a b one other).0

    pub none_told : (vtoc : Vtoc) → IsVtoc head slots pointer sliding vtoc → breaches_of vtoc ≡ [] → (told : Breach) → ¬ IsCheckFault head slots pointer sliding told
    none_told = checks.none_told head slots pointer sliding four_same same_vtoc

    pub one_check : (a b : Breach) → IsCheckFault head slots pointer sliding a → IsCheckFault head slots pointer sliding b → AreAlike a b
    one_check = checks.one_check head slots pointer sliding four_same same_vtoc
