-- An opening, and a making, against which nothing stands.
use Rattle.std.proofs.Common.{◌≡◌, ◌⊎◌, ⊎_elim, inl, inr, ℕ, List, Some, refl, sym, subst, ◌∙◌, arith}
use Rattle.std.specs.Prelude.{slice_get}
use Rattle.dasd_pool.specs.Disk.{Image, Shape}
use Rattle.vol_label.specs.declared.serial.Serial.{Serial}
use Rattle.redo_core.specs.declared.fault.JournalFault.{JournalFault}
use Rattle.redo_core.specs.declared.fault.JournalFault.TheVariants.{Pool, BadJournal, WrongUnit, JournalSmall, NoMemory}
use Rattle.redo_core.specs.declared.fault.JournalRule.{JournalRule}
use Rattle.redo_core.specs.declared.fault.JournalRule.TheVariants as rules
use Rattle.redo_core.specs.Reading.{Reading, Obeys, HasBody}
use Rattle.redo_core.specs.Faults.{zeroed, IsFirstBroken, IsBusy, IsFormatFault, IsOpenFault, MayFormat, MayOpen}
use Rattle.redo_core.proofs.Closed.{same_busy}

-- two readings of one image
module _ (shape : Shape) (image : Image) (one other : Reading) (is : Obeys shape image one) (also : Obeys shape image other) where
  same_room : other.room ≡ one.room
  same_room = sym also.registration.room_is ∙ is.registration.room_is

  same_names : other.names ≡ one.names
  same_names = also.registration.names_are ∙ sym is.registration.names_are

-- no rule is broken
no_rule : (shape : Shape) (image : Image) (reading : Reading) → Obeys shape image reading → ¬ IsBusy reading → (rule : JournalRule) → ¬ IsFirstBroken shape image rule
no_rule shape image reading is idle rules.Head broken = broken is.head
no_rule shape image reading is idle rules.Registration broken = broken.1 reading.names reading.room is.registration
no_rule shape image reading is idle rules.Body broken =
    let same : reading.room ≡ broken.0 = sym is.registration.room_is ∙ broken.1.registration.room_is in
    broken.2 (subst (λ (room : ℕ). HasBody shape image room) same is.body)
no_rule shape image reading is idle rules.Control broken = broken.3 is.control
no_rule shape image reading is idle rules.Slide broken = broken
no_rule shape image reading is idle rules.InUse broken = broken
no_rule shape image reading is idle rules.Busy broken = idle (same_busy shape image image reading broken.0 refl is broken.1 broken.2)

-- the two serials are one
no_others : (found kept : Serial) → Some found ≡ Some kept → found ≡ kept
no_others found kept e = cc

pub only_faults : (shape : Shape) (image : Image) (names : List Serial) (fault : JournalFault) → MayOpen shape image names → IsOpenFault shape image names fault
    → (fault ≡ Pool) ⊎ (fault ≡ NoMemory)
only_faults shape image names Pool may is = inl refl
only_faults shape image names NoMemory may is = inr refl
only_faults shape image names (BadJournal why) may is = absurd (no_rule shape (zeroed shape image) may.reading may.idle.obeys may.idle.idle is.0 is.2)
only_faults shape image names (JournalSmall need have) may is =
    let room : is.0.room ≡ may.reading.room = same_room shape (zeroed shape image) may.reading is.0 may.idle.obeys is.1.obeys in
    absurd (omega (arith, room, may.long, is.2, is.3, is.4))
only_faults shape image names (WrongUnit unit kept found) may is =
    let registered : is.0.names ≡ names = same_names shape (zeroed shape image) may.reading is.0 may.idle.obeys is.1.obeys ∙ may.names_are in
    absurd (⊎_elim
    (λ other.
    let there : slice_get names unit ≡ Some kept = subst (λ (l : List Serial). slice_get l unit ≡ Some kept) registered other.kept_is in
    other.other (no_others found kept (sym other.found_is ∙ there)))
    (λ labelled. labelled.1.other (no_others found kept (sym (may.labels unit found labelled.1.within labelled.1.found_is) ∙ labelled.1.kept_is)))
    is.3)

-- of making one
pub only_faults_making : (shape : Shape) (image : Image) (names : List Serial) (room : ℕ) (fault : JournalFault) → MayFormat shape image names room → IsFormatFault shape image names room fault
    → (fault ≡ Pool) ⊎ (fault ≡ NoMemory)
only_faults_making shape image names room Pool may is = inl refl
only_faults_making shape image names room NoMemory may is = inr refl
only_faults_making shape image names room (BadJournal why) may is = absurd (⊎_elim (λ head. head.1 may.head) (λ used. may.unused used.2) is)
only_faults_making shape image names room (JournalSmall need have) may is = absurd (omega (arith, may.long, is.3, is.4, is.5))
only_faults_making shape image names room (WrongUnit unit kept found) may is =
    absurd (is.2.other (no_others found kept (sym (may.labels unit found is.2.within is.2.found_is) ∙ is.2.kept_is)))
