-- The refusals of an opening, in their order.
use Rattle.std.proofs.Common.{◌≡◌, inl, inr, ℕ, ◌+◌, ◌≤◌, List, sym, subst}
use Rattle.dasd_pool.specs.Disk.{Image, Shape, State}
use Rattle.vol_label.specs.declared.serial.Serial.{Serial}
use Rattle.redo_core.specs.declared.fault.JournalFault.{JournalFault}
use Rattle.redo_core.specs.declared.fault.JournalFault.TheVariants.{Pool, BadJournal, WrongUnit, JournalSmall, NoMemory}
use Rattle.redo_core.specs.declared.target.Target.{Target}
use Rattle.redo_core.specs.Reading.{journal_of, overlay, Reading}
use Rattle.redo_core.specs.Steps.{HasTargets}
use Rattle.redo_core.specs.Faults.{zeroed, IsRuleFault, IsIdle, IsNameFault, IsLabelsFault, IsWhoFault, IsOpenFault, LabelsAre, MayOpen}
use Rattle.redo_core.proofs.Heads.{labelled}
use Rattle.redo_core.proofs.Redoing.{overlay_has}

-- a broken rule
pub rule_open : (shape : Shape) (image : Image) (names : List Serial) (f : JournalFault) → IsRuleFault shape (zeroed shape image) f → IsOpenFault shape image names f
rule_open shape image names (BadJournal why) h = h
rule_open shape image names Pool h = tt
rule_open shape image names NoMemory h = tt
rule_open shape image names (WrongUnit unit kept found) h = absurd h
rule_open shape image names (JournalSmall need have) h = absurd h

-- another name, or another label
pub who_open : (shape : Shape) (image : Image) (names : List Serial) (reading : Reading) → IsIdle shape image reading → 4 + reading.room ≤ shape.blocks (journal_of shape)
    → (f : JournalFault) → IsWhoFault shape (overlay shape.block_size (journal_of shape) image) reading.names names f → IsOpenFault shape image names f
who_open shape image names reading idle long (WrongUnit unit kept found) h = (reading, idle, long, h)
who_open shape image names reading idle long Pool h = tt
who_open shape image names reading idle long NoMemory h = tt
who_open shape image names reading idle long (BadJournal why) h = absurd h
who_open shape image names reading idle long (JournalSmall need have) h = absurd h

-- the same, of the same pool, with the open body in place
pub who_at : (shape other : Shape) (state was : State) (journal : ℕ) (list : List Target) (registered names : List Serial) (f : JournalFault) → other ≡ shape → was ≡ state → journal_of shape ≡ journal
    → HasTargets (journal_of shape) state.contents list → IsWhoFault other (labelled other was journal list) registered names f
    → IsWhoFault shape (overlay shape.block_size (journal_of shape) state.contents) registered names f
who_at shape other state was journal list registered names f one_shape one_state unit has h =
    let first = subst (λ (x : Shape). IsWhoFault x (labelled x was journal list) registered names f) one_shape h in
    let second = subst (λ (x : State). IsWhoFault shape (labelled shape x journal list) registered names f) one_state first in
    let third = subst (λ (j : ℕ). IsWhoFault shape (labelled shape state j list) registered names f) (sym unit) second in
    subst (λ (v : Image). IsWhoFault shape v registered names f) (λ i u b. sym (overlay_has shape.block_size (journal_of shape) state.contents list has u b) i) third

-- the labels, of the same pool, with the open body in place
pub labels_at : (shape other : Shape) (state was : State) (journal : ℕ) (list : List Target) (names : List Serial) → other ≡ shape → was ≡ state → journal_of shape ≡ journal
    → HasTargets (journal_of shape) state.contents list → LabelsAre other (labelled other was journal list) names journal
    → LabelsAre shape (overlay shape.block_size (journal_of shape) state.contents) names (journal_of shape)
labels_at shape other state was journal list names one_shape one_state unit has h =
    let first = subst (λ (x : Shape). LabelsAre x (labelled x was journal list) names journal) one_shape h in
    let second = subst (λ (x : State). LabelsAre shape (labelled shape x journal list) names journal) one_state first in
    let third = subst (λ (j : ℕ). LabelsAre shape (labelled shape state j list) names j) (sym unit) second in
    subst (λ (v : Image). LabelsAre shape v names (journal_of shape)) (λ i u b. sym (overlay_has shape.block_size (journal_of shape) state.contents list has u b) i) third

-- the same, by the blocks
pub may_at : (shape other : Shape) (image was : Image) (names : List Serial) → other ≡ shape → was ≡ image → MayOpen other was names → MayOpen shape image names
may_at shape other image was names one_shape one_image h =
    subst (λ (x : Image). MayOpen shape x names) one_image (subst (λ (x : Shape). MayOpen x was names) one_shape h)

pub who_names : (shape : Shape) (image : Image) (registered names : List Serial) (f : JournalFault) → IsNameFault registered names f → IsWhoFault shape image registered names f
who_names shape image registered names (WrongUnit unit kept found) h = inl h
who_names shape image registered names Pool h = absurd h
who_names shape image registered names NoMemory h = absurd h
who_names shape image registered names (BadJournal why) h = absurd h
who_names shape image registered names (JournalSmall need have) h = absurd h

pub who_labels : (shape : Shape) (image : Image) (registered names : List Serial) → registered ≡ names → (f : JournalFault) → IsLabelsFault shape image names f → IsWhoFault shape image registered names f
who_labels shape image registered names same (WrongUnit unit kept found) h = inr (same, h)
who_labels shape image registered names same Pool h = tt
who_labels shape image registered names same NoMemory h = tt
who_labels shape image registered names same (BadJournal why) h = absurd h
who_labels shape image registered names same (JournalSmall need have) h = absurd h

pub names_cause : (registered names : List Serial) (cause : Type 0) (f : JournalFault) → IsNameFault registered names f → f ≡ Pool → cause
names_cause registered names cause (WrongUnit unit kept found) h is = absurd (cc is)
names_cause registered names cause Pool h is = absurd h
names_cause registered names cause NoMemory h is = absurd h
names_cause registered names cause (BadJournal why) h is = absurd h
names_cause registered names cause (JournalSmall need have) h is = absurd h

pub open_at : (shape other : Shape) (image was : Image) (names : List Serial) (f : JournalFault) → other ≡ shape → was ≡ image → IsOpenFault other was names f → IsOpenFault shape image names f
open_at shape other image was names f one_shape one_image h =
    subst (λ (x : Image). IsOpenFault shape x names f) one_image (subst (λ (x : Shape). IsOpenFault x was names f) one_shape h)
