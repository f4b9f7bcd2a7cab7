-- What the control says once entries are in place.
use Rattle.std.proofs.Common.{◌≡◌, inl, inr, ℕ, ◌<◌, List, [], ◌∷◌, ◌++◌, length, Bool, true, false, refl, sym, ◌∙◌, ap, subst, arith}
use Rattle.std.specs.Prelude.{All, nat_lt, ◌==◌, if◌then◌else◌}
use Rattle.std.proofs.lemmas.Bool.{cases_Bool, both_ways, lt-ltb, or_left, and_from, and_parts, eqb-true, eq-eqb}
use Rattle.std.specs.List.{AllByRecursion}
use Rattle.std.proofs.lemmas.List.Elements.{recursion_from_All}
use Rattle.dasd_pool.specs.Disk.{Image, Shape, is_at}
use Rattle.redo_core.specs.declared.control.Control.{Control}
use Rattle.redo_core.specs.declared.entries.Entry.{Entry}
use Rattle.redo_core.specs.Format.{control_in, is_filling}
use Rattle.redo_core.specs.Reading.{journal_of, set_block, placed, control_after, fills_after, with_entries, fills_of, Reading, IsControl}
use Rattle.redo_core.specs.Phases.{IsEntry, MayGo, IsStatusAfter}
use Rattle.redo_core.specs.Steps.{IsJournal}
use Rattle.redo_core.proofs.Crash.{other_unit}

-- the journal is the last unit
pub journal_is : {shape : Shape} {unit room : ℕ} → IsJournal shape unit room → unit ≡ journal_of shape
journal_is is = omega (arith, is.last)

pub at_journal : {shape : Shape} {unit room : ℕ} → IsJournal shape unit room → IsJournal shape (journal_of shape) room
at_journal {shape} {unit} {room} is = subst (λ (u : ℕ). IsJournal shape u room) (journal_is is) is

-- entries of volumes leave the control
module _ (journal : ℕ) where
  control_kept : (entries : List Entry) → AllByRecursion (λ entry. entry.unit < journal) entries → (control : Control) → control_after journal entries control ≡ control
  control_kept [] all control = refl
  control_kept (entry ∷ entries) all control =
      ap (λ (t : Bool). control_after journal entries (if t then control_in entry.slot else control)) (other_unit journal 2 entry.unit entry.block (λ same. omega (arith, all.0)))
      ∙ control_kept entries all.1 control

  fills_kept : (entries : List Entry) → AllByRecursion (λ entry. entry.unit < journal) entries → (fills : ℕ → Bool) → fills_after journal entries fills ≡ fills
  fills_kept [] all fills = refl
  fills_kept (entry ∷ entries) all fills =
      ap (λ (t : Bool). fills_after journal entries (if t then is_filling entry.slot else fills)) (other_unit journal 2 entry.unit entry.block (λ same. omega (arith, all.0)))
      ∙ fills_kept entries all.1 fills

module _ (shape : Shape) (entries : List Entry) (volumes : All (λ entry. entry.unit < journal_of shape) entries) where
  pub no_control : (control : Control) (fills : ℕ → Bool) → (control_after (journal_of shape) entries control ≡ control) × (fills_after (journal_of shape) entries fills ≡ fills)
  no_control control fills =
      let all = recursion_from_All (λ entry. entry.unit < journal_of shape) entries volumes in
      (control_kept (journal_of shape) entries all control, fills_kept (journal_of shape) entries all fills)

  pub with_volumes : (reading : Reading) → with_entries shape reading entries ≡ record reading { volumes = placed reading.volumes entries }
  with_volumes reading =
      let kept = no_control reading.control reading.fills in
      λ i. record reading { volumes = placed reading.volumes entries; control = kept.0 i; fills = kept.1 i }

  -- and what is under way
  pub status_kept : (control after : Control) (fills later : List Bool) → IsStatusAfter shape entries control fills after later → (after ≡ control) × ((u : ℕ) → u < journal_of shape → fills_of later u ≡ fills_of fills u)
  status_kept control after fills later is =
      let kept = no_control control (fills_of fills) in
      (is.control_is ∙ kept.0, λ u less. is.fills_are u less ∙ (λ i. kept.1 i u))

-- an entry of a volume
pub volume_entry : (shape : Shape) (entry : Entry) → entry.unit < journal_of shape → entry.block < shape.blocks entry.unit → length entry.slot ≡ shape.block_size entry.unit → IsEntry shape entry
volume_entry shape entry less there slot = record { volume = less; there = there; slot = slot }

pub volume_goes : (shape : Shape) (entry : Entry) → IsEntry shape entry → MayGo shape entry
volume_goes shape entry is =
    let journal = journal_of shape in
    record {
      place = or_left (nat_lt entry.unit journal) (is_at journal 2 entry.unit entry.block) (lt-ltb entry.unit journal is.volume);
      control = λ at. absurd (both_ways (is_at journal 2 entry.unit entry.block) (other_unit journal 2 entry.unit entry.block (λ same. omega (arith, is.volume, same))) at);
      there = is.there;
      slot = is.slot;
    }

-- two places are one, from both sides
turned : (a b c d : ℕ) → is_at a b c d ≡ true → is_at c d a b ≡ true
turned a b c d at =
    let parts = and_parts (c == a) (d == b) at in
    and_from (a == c) (b == d) (eq-eqb a c (sym (eqb-true c a parts.0))) (eq-eqb b d (sym (eqb-true d b parts.1)))

-- what a block says, with one entry more in place
set_says : {X : Type 0} (says : List ℕ → X) (journal : ℕ) (entry : Entry) (image : Image) (x : X) → x ≡ says (image journal 2)
    → (if is_at journal 2 entry.unit entry.block then says entry.slot else x) ≡ says (set_block image entry.unit entry.block entry.slot journal 2)
set_says {X} says journal entry image x is = elim (cases_Bool (is_at journal 2 entry.unit entry.block)) [
  | inl at ↦
      ap (λ (t : Bool). if t then says entry.slot else x) at
      ∙ sym (ap (λ (t : Bool). says (if t then entry.slot else image journal 2)) (turned journal 2 entry.unit entry.block at))
  | inr apart ↦
      ap (λ (t : Bool). if t then says entry.slot else x) apart ∙ is
      ∙ sym (ap (λ (t : Bool). says (if t then entry.slot else image journal 2)) (not_turned apart))
]
  where
    not_turned : is_at journal 2 entry.unit entry.block ≡ false → is_at entry.unit entry.block journal 2 ≡ false
    not_turned apart = elim (cases_Bool (is_at entry.unit entry.block journal 2)) [
      | inl at ↦ absurd (both_ways (is_at journal 2 entry.unit entry.block) apart (turned entry.unit entry.block journal 2 at))
      | inr other ↦ other
    ]

-- the control block with all entries in place says what the entries say
pub control_placed : (journal : ℕ) (entries : List Entry) (image : Image) (control : Control) → control ≡ control_in (image journal 2) → control_after journal entries control ≡ control_in (placed image entries journal 2)
control_placed journal [] image control is = is
control_placed journal (entry ∷ entries) image control is =
    control_placed journal entries (set_block image entry.unit entry.block entry.slot) _ (set_says control_in journal entry image control is)

pub fills_placed : (journal : ℕ) (entries : List Entry) (image : Image) (fills : ℕ → Bool) (u : ℕ) → fills u ≡ is_filling (image journal 2) u → fills_after journal entries fills u ≡ is_filling (placed image entries journal 2) u
fills_placed journal [] image fills u is = is
fills_placed journal (entry ∷ entries) image fills u is =
    fills_placed journal entries (set_block image entry.unit entry.block entry.slot) _ u
    (apart (is_at journal 2 entry.unit entry.block) ∙ set_says (λ (block : List ℕ). is_filling block u) journal entry image (fills u) is)
  where
    apart : (t : Bool) → (if t then is_filling entry.slot else fills) u ≡ (if t then is_filling entry.slot u else fills u)
    apart true = refl
    apart false = refl

-- and it is a lawful one
lawful_by : (shape : Shape) (entries : List Entry) (image : Image) → AllByRecursion (MayGo shape) entries → IsControl shape (image (journal_of shape) 2) → IsControl shape (placed image entries (journal_of shape) 2)
lawful_by shape [] image each is = is
lawful_by shape (entry ∷ entries) image each is = lawful_by shape entries (set_block image entry.unit entry.block entry.slot) each.1 here
  where
    here : IsControl shape (set_block image entry.unit entry.block entry.slot (journal_of shape) 2)
    here = elim (cases_Bool (is_at entry.unit entry.block (journal_of shape) 2)) [
      | inl at ↦
          subst (λ (t : Bool). IsControl shape (if t then entry.slot else image (journal_of shape) 2)) (sym at)
          (each.0.control (turned entry.unit entry.block (journal_of shape) 2 at)).is
      | inr apart ↦ subst (λ (t : Bool). IsControl shape (if t then entry.slot else image (journal_of shape) 2)) (sym apart) is
    ]

pub lawful_placed : (shape : Shape) (entries : List Entry) (image : Image) → All (MayGo shape) entries → IsControl shape (image (journal_of shape) 2) → IsControl shape (placed image entries (journal_of shape) 2)
lawful_placed shape entries image each is = lawful_by shape entries image (recursion_from_All (MayGo shape) entries each) is

-- one entry more
pub control_more : (journal : ℕ) (entries : List Entry) (entry : Entry) (control : Control)
    → control_after journal (entries ++ entry ∷ []) control ≡ (if is_at journal 2 entry.unit entry.block then control_in entry.slot else control_after journal entries control)
control_more journal [] entry control = refl
control_more journal (first ∷ entries) entry control = control_more journal entries entry _

pub fills_more : (journal : ℕ) (entries : List Entry) (entry : Entry) (fills : ℕ → Bool)
    → fills_after journal (entries ++ entry ∷ []) fills ≡ (if is_at journal 2 entry.unit entry.block then is_filling entry.slot else fills_after journal entries fills)
fills_more journal [] entry fills = refl
fills_more journal (first ∷ entries) entry fills = fills_more journal entries entry _

-- a choice of two tests, where the second is another
pub choice_at : (t : Bool) (f one other : ℕ → Bool) (u : ℕ) → one u ≡ other u → (if t then f else one) u ≡ (if t then f else other) u
choice_at true f one other u same = refl
choice_at false f one other u same = same
