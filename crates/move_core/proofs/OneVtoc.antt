-- A VTOC of an image reads in one way, however long its slots are, and any other where they are short.
use Rattle.std.proofs.Common.{◌≡◌, ◌⊎◌, inl, inr, ℕ, ◌+◌, ◌<◌, ◌≤◌, List, Bool, arith}
use Rattle.ckd_image.specs.declared.head.Head.{Head}
use Rattle.ckd_image.specs.declared.track.Cchhr.{Cchhr}
use Rattle.ckd_image.specs.Device.{heads_of}
use Rattle.volume_model.specs.declared.place.Vtoc.{Vtoc}
use Rattle.volume_model.specs.Space.{track_at}
use Rattle.volume_model.specs.Sound.{Slots, IsFormat4, IsVtoc}
use Rattle.volume_model.proofs.OneText.{one_text, one_text_on}
use Rattle.volume_model.proofs.OneVtoc.{spelled_format_4, spelled_vtoc}
use Rattle.volume_model.proofs.OneVtoc as vtocs
use Rattle.move_core.specs.Loaded.{AreShort}
use Rattle.move_core.proofs.Frames.{vtoc_below, pointer_held}

-- one slot says one format 4
pub one_format_4 : (heads : ℕ) (slots : Slots) (pointer : Cchhr) (a b : List ℕ) → pointer.at.head < 65535 → IsFormat4 heads slots pointer a → IsFormat4 heads slots pointer b → a ≡ b
one_format_4 heads slots pointer a b low =
    spelled_format_4 heads slots pointer a b (λ one other. one_text pointer.at (slots (track_at heads pointer.at)) one other low)

-- the slots of the format 4 and of the VTOC's tracks say one VTOC
pub named_vtoc : (head : Head) (slots : Slots) (pointer : Cchhr) (sliding : Bool) (a b : Vtoc) → pointer.at.head < 65535
    → (one : IsVtoc head slots pointer sliding a) → (other : IsVtoc head slots pointer sliding b) → (a ≡ b) × (one.bytes ≡ other.bytes)
named_vtoc head slots pointer sliding a b low one other =
    spelled_vtoc head slots pointer sliding a b (λ x y. one_text pointer.at (slots (track_at (heads_of head.device) pointer.at)) x y low)
    (λ k within x y. one_text_on head.device (a.run.first + k) (slots (a.run.first + k)) x y) one other

-- the track of the format 4 is one of the image
pub one_vtoc : (head : Head) (slots : Slots) (pointer : Cchhr) (sliding : Bool) (a b : Vtoc) → head.tracks ≤ 65535
    → (one : IsVtoc head slots pointer sliding a) → (other : IsVtoc head slots pointer sliding b) → (a ≡ b) × (one.bytes ≡ other.bytes)
one_vtoc head slots pointer sliding a b few one other =
    let below : track_at (heads_of head.device) pointer.at < head.tracks =
    vtoc_below head pointer slots sliding a one (track_at (heads_of head.device) pointer.at) (pointer_held head pointer slots sliding a one) in
    named_vtoc head slots pointer sliding a b (omega (arith, few, below)) one other

-- the track of the format 4 is one of its run
short_vtoc : (head : Head) (slots : Slots) (pointer : Cchhr) (sliding : Bool) (a b : Vtoc) → AreShort slots a.run
    → (one : IsVtoc head slots pointer sliding a) → (other : IsVtoc head slots pointer sliding b) → (a ≡ b) × (one.bytes ≡ other.bytes)
short_vtoc head slots pointer sliding a b short one other =
    vtocs.one_vtoc head slots pointer sliding a b (short (track_at (heads_of head.device) pointer.at) (pointer_held head pointer slots sliding a one))
    (λ k less. short (a.run.first + k) (omega arith, omega (arith, less))) one other

pub read_vtoc : (head : Head) (slots : Slots) (pointer : Cchhr) (sliding : Bool) (a b : Vtoc) → (head.tracks ≤ 65535) ⊎ AreShort slots a.run
    → (one : IsVtoc head slots pointer sliding a) → (other : IsVtoc head slots pointer sliding b) → (a ≡ b) × (one.bytes ≡ other.bytes)
read_vtoc head slots pointer sliding a b (inl few) = one_vtoc head slots pointer sliding a b few
read_vtoc head slots pointer sliding a b (inr short) = short_vtoc head slots pointer sliding a b short
