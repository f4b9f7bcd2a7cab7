-- What the labels of units say.
use Rattle.std.proofs.Common.{◌≡◌, ◌<◌, ◌+◌, ⊎_elim, ℕ, List, sym, ap, ◌∙◌, subst, arith}
use Rattle.std.specs.Prelude.{Option, Some, IfSome, slice_get}
use Rattle.std.proofs.lemmas.Bool.{cases_eq}
use Rattle.ckd_image.specs.declared.head.Head.{Head}
use Rattle.dasd_pool.specs.Disk.{Image, Shape, State}
use Rattle.vol_label.specs.declared.serial.Serial.{Serial}
use Rattle.redo_core.specs.Faults.{HasSerial, HasLabel, LabelsAre}
use Rattle.redo_core.specs.declared.target.Target.{Target}
use Rattle.redo_core.specs.Reading.{placed, body_for}
use Rattle.ckd_image.specs.Head.{IsHead}
use Rattle.ckd_image.proofs.Devices.{one_device}

-- the label of a unit, by its head as it was read
pub label_serial : (shape : Shape) (image : Image) (unit : ℕ) (head : Head) (slot : List ℕ) → IsHead (shape.head unit) (shape.blocks unit) head.device → head.tracks ≡ shape.blocks unit → slot ≡ image unit 0
    → (serial : Serial) → HasLabel shape image unit serial → HasSerial head slot serial
label_serial shape image unit head slot is tracks same serial has =
    let device : has.device ≡ head.device = one_device (shape.head unit) has.device head.device has.head.named is.named in
    subst (λ (l : List ℕ). HasSerial head l serial) (sym same) (subst (λ (h : Head). HasSerial h (image unit 0) serial) (λ i. record { device = device i; tracks = sym tracks i }) has.label)

abbrev pub labelled : Shape → State → ℕ → List Target → Image
labelled shape state journal list = placed state.contents (body_for shape.block_size journal state.contents list)

-- the same, of the same pool
pub only_at : (s t : Shape) (a b : State) (journal unit : ℕ) (list : List Target) (found : Option Serial) → t ≡ s → b ≡ a → ((serial : Serial) → HasLabel t (labelled t b journal list) unit serial → found ≡ Some serial)
    → (serial : Serial) → HasLabel s (labelled s a journal list) unit serial → found ≡ Some serial
only_at s t a b journal unit list found shape state =
    λ only serial has. only serial
    (subst (λ (x : Shape). HasLabel x (labelled x b journal list) unit serial) (sym shape) (subst (λ (x : State). HasLabel s (labelled s x journal list) unit serial) (sym state) has))

pub found_at : (s t : Shape) (a b : State) (journal unit : ℕ) (list : List Target) (serial : Serial) → t ≡ s → b ≡ a → HasLabel t (labelled t b journal list) unit serial → HasLabel s (labelled s a journal list) unit serial
found_at s t a b journal unit list serial shape state has =
    subst (λ (x : Shape). HasLabel x (labelled x a journal list) unit serial) shape (subst (λ (x : State). HasLabel t (labelled t x journal list) unit serial) state has)

-- one unit more
pub labels_more : (shape : Shape) (image : Image) (names : List Serial) (unit : ℕ) (name : Serial) (found : Option Serial) → LabelsAre shape image names unit → slice_get names unit ≡ Some name
    → ((serial : Serial) → HasLabel shape image unit serial → found ≡ Some serial) → IfSome found (λ serial. serial ≡ name) → LabelsAre shape image names (unit + 1)
labels_more shape image names unit name found so_far named only is u serial less has = ⊎_elim
    (λ same.
    let here : HasLabel shape image unit serial = subst (λ (k : ℕ). HasLabel shape image k serial) same has in
    let same_name : serial ≡ name = subst (λ (o : Option Serial). IfSome o (λ s. s ≡ name)) (only serial here) is in
    ap (λ (k : ℕ). slice_get names k) same ∙ named ∙ ap Some (sym same_name))
    (λ other. so_far u serial (below other) has)
    (cases_eq u unit)
  where
    below : (u ≡ unit → ⊥) → u < unit
    below other = omega (arith, less, other)
