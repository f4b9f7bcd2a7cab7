-- Images of which no slide is open.
use Rattle.std.proofs.Common.{◌≡◌, inl, inr, ℕ, ◌+◌, ◌≤◌, List, [], length, refl, sym, ◌∙◌, ap, arith}
use Rattle.std.proofs.lemmas.Bool.{cases_Bool, both_ways}
use Rattle.dasd_pool.specs.Disk.{Image, Shape, State}
use Rattle.vol_label.specs.declared.serial.Serial.{Serial}
use Rattle.redo_core.specs.declared.target.Target.{Target}
use Rattle.redo_core.specs.Format.{is_open, control_in, directory_in}
use Rattle.redo_core.specs.Reading.{journal_of, control_block, Reading, Reads, Obeys}
use Rattle.redo_core.specs.Steps.{HasTargets}
use Rattle.redo_core.specs.Opening.{IsFormatted}
use Rattle.redo_core.specs.Faults.{zeroed, IsBusy, HasNoSlide, MayOpen}
use Rattle.redo_core.proofs.Openings.{zeroed_there, overlay_there}

-- what is under way is said by the control block alone
pub same_busy : (shape : Shape) (image later : Image) (one other : Reading) → control_block shape later ≡ control_block shape image → Obeys shape image one → Obeys shape later other → IsBusy other → IsBusy one
same_busy shape image later one other same is also slide = λ idle. slide (also.control_is ∙ ap control_in same ∙ sym is.control_is ∙ idle)

pub closed_by : (shape : Shape) (image : Image) (reading : Reading) → Reads shape image reading → ¬ IsBusy reading → HasNoSlide shape image
closed_by shape image reading reads idle other also busy = idle (same_busy shape image image reading other refl reads.obeys also.obeys busy)

-- of an image that has the same control
pub closed_same : (shape : Shape) (image later : Image) (reading : Reading) → control_block shape later ≡ control_block shape image → Reads shape image reading → HasNoSlide shape image → HasNoSlide shape later
closed_same shape image later reading same reads closed other also busy = closed reading reads (same_busy shape image later reading other same reads.obeys also.obeys busy)

-- where the journal has all its blocks, the control is as it is with zeros past its end
control_there : (shape : Shape) (image : Image) (reading : Reading) → Obeys shape (zeroed shape image) reading → 4 + reading.room ≤ shape.blocks (journal_of shape)
    → control_block shape image ≡ control_block shape (zeroed shape image)
control_there shape image reading is long =
    let gate = is_open (zeroed shape image (journal_of shape) 1) in
    elim (cases_Bool (is_open (zeroed shape image (journal_of shape) 1))) [
      | inl opened ↦ by (directory_in (zeroed shape image (journal_of shape) 3)) ((is.body opened).few) (record { closed = λ shut. absurd (both_ways gate shut opened); «open» = λ so. (refl, (is.body opened).some) })
      | inr shut ↦ by [] (omega arith) (record { closed = λ so. refl; «open» = λ opened. absurd (both_ways gate shut opened) })
    ]
  where
    by : (list : List Target) → length list ≤ reading.room → HasTargets (journal_of shape) (zeroed shape image) list → control_block shape image ≡ control_block shape (zeroed shape image)
    by list few has = sym (overlay_there shape image reading.room list long few has (journal_of shape) 2 (zeroed_there shape image (journal_of shape) 2 (omega (arith, long))))

-- a journal that may be opened
pub allowed_closed : (shape : Shape) (image : Image) (names : List Serial) → MayOpen shape image names → HasNoSlide shape image
allowed_closed shape image names may other also busy =
    let is = may.idle.obeys in
    may.idle.idle (same_busy shape (zeroed shape image) image may.reading other (control_there shape image may.reading is may.long) is also.obeys busy)

-- and one that was made
pub formatted_closed : (shape : Shape) (old : State) (names : List Serial) (room : ℕ) (new : State) → IsFormatted shape old names room new → HasNoSlide shape new.contents
formatted_closed shape old names room new is = closed_by shape new.contents _ is.reads (λ slide. slide refl)
