-- A control block reads as it was written.
use Rattle.std.proofs.Common.{◌≡◌, ◌<◌, ◌≤◌, ◌-◌, ℕ, zero, ◌+◌, List, [], ◌++◌, length, map, take, drop, get_or, append_assoc, append-nil, length-append, refl, sym, ◌∙◌, ap, subst, arith}
use Rattle.std.specs.Prelude.{◌≢◌, ◌∷◌, All, AllPairs, Option, Some, None, Bool, true, if◌then◌else◌, replicate, slice_index, ◌==◌}
use Rattle.std.specs.Int.{bit_at}
use Rattle.std.specs.List.{range_with_len}
use Rattle.std.proofs.lemmas.List.{drop_at, length-replicate, map-append, get_or_append_left, get_or-append_right}
use Rattle.std.proofs.lemmas.List.Elements.{All-nil, All-cons, All-push, All-map, All-weaker, All-get_or}
use Rattle.std.proofs.lemmas.List.Quantifiers.{all_pairs_push}
use Rattle.std.proofs.lemmas.List.FromFn.{get_or-map-range_with_len, length-map-range_with_len}
use Rattle.byteorder.specs.Endian.{big_bytes}
use Rattle.byteorder.specs.Numbers.{big_number-reads_back}
use Rattle.std.proofs.lemmas.Bool.{and_from, eq-eqb}
use Rattle.dasd_pool.specs.Disk.{Shape, is_at}
use Rattle.redo_core.specs.declared.control.Control.{Control}
use Rattle.redo_core.specs.declared.control.Control.TheVariants.{Idle, Slide}
use Rattle.redo_core.specs.Format.{wide, control_text, control_in, is_filling, number_at}
use Rattle.redo_core.specs.Reading.{journal_of, fills_of, IsLawful}
use Rattle.redo_core.specs.Statuses.{AreVolumes, HasFour, IsControlBlock, IsSpare, SaysControl, status_text, block_saying, EntriesView, control_entry, control_alone, with_control, entries_at}
use Rattle.redo_core.specs.declared.entries.Entry.{Entry}
use Rattle.redo_core.specs.declared.target.Target.{Target}
use Rattle.redo_core.specs.Laws.{LawfulIsControlBlock}
use Rattle.redo_core.specs.Phases.{targets, AreEntries, IsEntry, IsStatusAfter, MayGo}
use Rattle.redo_core.specs.Steps.{IsJournal}
use Rattle.redo_core.proofs.Controls.{volume_goes}
use Rattle.redo_core.proofs.Readings.{place_control}

pub length-control_text : (control : Control) → length (control_text control) ≡ 24
length-control_text Idle = refl
length-control_text (Slide unit from to len done) = refl

-- the first byte says whether a slide is open
first_byte : (control : Control) (rest : List ℕ) → slice_index (control_text control ++ rest) 0 ≤ 1
first_byte Idle rest = omega arith
first_byte (Slide unit from to len done) rest = omega arith

-- and the numbers are those of the slide
says_back : (control : Control) (rest : List ℕ) → HasFour control → control_in (control_text control ++ rest) ≡ control
says_back Idle rest fits = refl
says_back (Slide unit from to len done) rest fits =
    let fifth = rest in
    let fourth = big_bytes 4 done ++ fifth in
    let third = big_bytes 4 len ++ fourth in
    let second = big_bytes 4 to ++ third in
    let first = big_bytes 4 from ++ second in
    let unit_is : number_at 4 (control_text (Slide unit from to len done) ++ rest) ≡ unit = big_number-reads_back 4 unit first fits.0 in
    let from_is : number_at 8 (control_text (Slide unit from to len done) ++ rest) ≡ from = big_number-reads_back 4 from second fits.1 in
    let to_is : number_at 12 (control_text (Slide unit from to len done) ++ rest) ≡ to = big_number-reads_back 4 to third fits.2 in
    let len_is : number_at 16 (control_text (Slide unit from to len done) ++ rest) ≡ len = big_number-reads_back 4 len fourth fits.3 in
    let done_is : number_at 20 (control_text (Slide unit from to len done) ++ rest) ≡ done = big_number-reads_back 4 done fifth fits.4 in
    λ i. Slide (unit_is i) (from_is i) (to_is i) (len_is i) (done_is i)

-- ---- the front of a block

module _ (filling : ℕ) where
  abbrev pub flags : List ℕ
  flags = map (bit_at filling) (range_with_len 0 64)

  flags_long : length flags ≡ 64
  flags_long = length-map-range_with_len (bit_at filling) 0 64

  pub length-status : (control : Control) → length (status_text control filling) ≡ 128
  length-status control =
      length-append (control_text control) (replicate 40 0 ++ flags)
      ∙ (λ i. length-control_text control i + (length-append (replicate 40 0) flags ∙ ap (λ (n : ℕ). 40 + n) flags_long) i)

  -- the control and then the bits are put over zeros
  pub status_put : (control : Control) (text fills first block : List ℕ) → text ≡ control_text control → first ≡ text ++ drop (0 + length text) (replicate 128 0)
      → fills ≡ flags → block ≡ take 64 first ++ (fills ++ drop (64 + length fills) first) → block ≡ status_text control filling
  status_put control text fills first block is put bits over =
      let front : first ≡ control_text control ++ replicate 104 0 =
      put ∙ (λ i. is i ++ drop (0 + length (is i)) (replicate 128 0)) ∙ ap (λ (n : ℕ). control_text control ++ drop (0 + n) (replicate 128 0)) (length-control_text control) in
      let long : length fills ≡ 64 = ap length bits ∙ flags_long in
      over ∙ ap (λ (n : ℕ). take 64 first ++ (fills ++ drop (64 + n) first)) long
      ∙ (λ i. (ap (take 64) front ∙ before control) i ++ (bits i ++ (ap (drop 128) front ∙ behind control) i))
      ∙ ap (λ (l : List ℕ). (control_text control ++ replicate 40 0) ++ l) (append-nil flags)
      ∙ append_assoc (control_text control) (replicate 40 0) flags
    where
      before : (c : Control) → take 64 (control_text c ++ replicate 104 0) ≡ control_text c ++ replicate 40 0
      before Idle = refl
      before (Slide unit from to len done) = refl

      behind : (c : Control) → drop 128 (control_text c ++ replicate 104 0) ≡ []
      behind Idle = refl
      behind (Slide unit from to len done) = refl

  -- and the whole front over what is there
  pub said : (control : Control) (text old new : List ℕ) → text ≡ status_text control filling → new ≡ text ++ drop (0 + length text) old → drop 128 old ≡ replicate (wide - 128) 0
      → new ≡ block_saying control filling
  said control text old new is put behind =
      put ∙ ap (λ (n : ℕ). text ++ drop (0 + n) old) (ap length is ∙ length-status control) ∙ (λ i. is i ++ behind i)

  -- ---- a block that says this

  abbrev rest : List ℕ
  rest = replicate (wide - 128) 0

  whole : (control : Control) → block_saying control filling ≡ (control_text control ++ replicate 40 0) ++ (flags ++ rest)
  whole control = ap (λ (l : List ℕ). l ++ rest) (sym (append_assoc (control_text control) (replicate 40 0) flags)) ∙ append_assoc (control_text control ++ replicate 40 0) flags rest

  front_long : (control : Control) → length (control_text control ++ replicate 40 0) ≡ 64
  front_long control = length-append (control_text control) (replicate 40 0) ∙ ap (λ (n : ℕ). n + 40) (length-control_text control)

  bit_is : (control : Control) (u : ℕ) → u < 64 → slice_index (block_saying control filling) (64 + u) ≡ bit_at filling u
  bit_is control u less =
      ap (λ (l : List ℕ). slice_index l (64 + u)) (whole control)
      ∙ get_or-append_right (control_text control ++ replicate 40 0) (flags ++ rest) 64 (64 + u) 0 (front_long control) (omega arith)
      ∙ ap (λ (n : ℕ). get_or (flags ++ rest) n 0) (past u)
      ∙ get_or_append_left flags rest 0 u (omega (arith, flags_long, less))
      ∙ get_or-map-range_with_len (bit_at filling) 0 64 u u 0 less (omega arith)
    where
      past : (k : ℕ) → 64 + k - 64 ≡ k
      past k = omega arith

  pub length-block : (control : Control) → length (block_saying control filling) ≡ wide
  length-block control = length-append (status_text control filling) rest ∙ (λ i. length-status control i + length-replicate (wide - 128) zero i)

  pub says_control : (control : Control) → HasFour control → SaysControl (block_saying control filling) control filling
  says_control control fits =
      let text : block_saying control filling ≡ control_text control ++ ((replicate 40 0 ++ flags) ++ rest) = append_assoc (control_text control) (replicate 40 0 ++ flags) rest in
      record {
        size = length-block control;
        known = subst (λ (l : List ℕ). slice_index l 0 ≤ 1) (sym text) (first_byte control _);
        control_is = ap control_in text ∙ says_back control _ fits;
        fills_are = λ u less. ap (λ (n : ℕ). n == 1) (bit_is control u less);
      }

-- a lawful one may go to the control block's place
pub lawful_block : LawfulIsControlBlock
lawful_block shape control filling fits lawful volumes =
    let says = says_control filling control fits in
    record {
      filling = filling;
      text = ap (λ (c : Control). block_saying c filling) (sym says.control_is);
      volumes = volumes;
      is = record { known = says.known; lawful = subst (λ (c : Control). IsLawful shape c) (sym says.control_is) lawful };
    }

-- ---- entries, with that for the control block

module _ (shape : Shape) (room : ℕ) (is : IsJournal shape (journal_of shape) room) where
  pub control_goes : (slot : List ℕ) → IsControlBlock shape slot → MayGo shape (control_entry (journal_of shape) slot)
  control_goes slot block = record {
    place = place_control shape;
    control = λ at. block;
    there = omega (arith, is.blocks);
    slot = ap length block.text ∙ length-block block.filling (control_in slot) ∙ sym is.width;
  }

  pub all_go : (entries : EntriesView) → AreEntries shape entries → All (MayGo shape) (entries_at (journal_of shape) entries)
  all_go entries each = by entries.control each.control
    where
      volumes : All (MayGo shape) entries.blocks
      volumes = All-weaker (IsEntry shape) (MayGo shape) (volume_goes shape) entries.blocks each.blocks

      by : (control : Option (List ℕ)) → ((slot : List ℕ) → control ≡ Some slot → IsControlBlock shape slot) → All (MayGo shape) (with_control (journal_of shape) control entries.blocks)
      by None is = volumes
      by (Some slot) is = All-push (MayGo shape) entries.blocks (control_entry (journal_of shape) slot) volumes (control_goes slot (is slot refl))

-- no two are for one block
pub all_apart : (shape : Shape) (entries : EntriesView) → AreEntries shape entries → AllPairs (λ one other. one ≢ other) (targets entries.blocks)
    → AllPairs (λ one other. one ≢ other) (targets (entries_at (journal_of shape) entries))
all_apart shape entries each apart = by entries.control
  where
    target_of : Entry → Target
    target_of entry = record { unit = entry.unit; block = entry.block }

    below : All (λ (target : Target). target.unit < journal_of shape) (targets entries.blocks)
    below =
        All-map (λ (target : Target). target.unit < journal_of shape) target_of entries.blocks
        (All-weaker (IsEntry shape) (λ entry. entry.unit < journal_of shape) (λ entry is. is.volume) entries.blocks each.blocks)

    by : (control : Option (List ℕ)) → AllPairs (λ one other. one ≢ other) (targets (with_control (journal_of shape) control entries.blocks))
    by None = apart
    by (Some slot) =
        let last : Target = record { unit = journal_of shape; block = 2 } in
        subst (λ (l : List Target). AllPairs (λ one other. one ≢ other) l) (sym (map-append target_of entries.blocks (control_entry (journal_of shape) slot ∷ [])))
        (all_pairs_push (λ (one other : Target). one ≢ other) (targets entries.blocks) last apart
        (λ k d less same.
        omega (arith, All-get_or (λ (target : Target). target.unit < journal_of shape) (targets entries.blocks) k d less below, ap (λ (t : Target). t.unit) same)))

-- ---- a commit of the control block alone

pub spare_said : (journal : ℕ) (control : Control) (filling : ℕ) → IsSpare journal (control_alone journal control filling)
spare_said journal control filling = record {
  slot = block_saying control filling;
  entry = refl;
  size = length-block filling control;
  behind = drop_at (status_text control filling) (replicate (wide - 128) 0) 128 (length-status filling control);
}

pub control_goes_alone : (shape : Shape) (room : ℕ) → IsJournal shape (journal_of shape) room → (control : Control) (filling : ℕ) → HasFour control → IsLawful shape control
    → AreVolumes (journal_of shape) filling → All (MayGo shape) (control_alone (journal_of shape) control filling)
control_goes_alone shape room is control filling fits lawful volumes =
    All-cons (MayGo shape) (control_entry (journal_of shape) (block_saying control filling)) []
    (control_goes shape room is (block_saying control filling) (lawful_block shape control filling fits lawful volumes)) (All-nil (MayGo shape))

-- what it says is under way then
pub status_said : {unit room : ℕ} (shape : Shape) (control : Control) (filling : ℕ) (before after : Control) (fills later : List Bool) → IsJournal shape unit room → HasFour control
    → IsStatusAfter shape (control_alone (journal_of shape) control filling) before fills after later
    → (after ≡ control) × ((u : ℕ) → u < journal_of shape → fills_of later u ≡ (bit_at filling u == 1))
status_said shape control filling before after fills later is fits status =
    let journal = journal_of shape in
    let says = says_control filling control fits in
    let at : is_at journal 2 journal 2 ≡ true = and_from (journal == journal) (2 == 2) (eq-eqb journal journal refl) refl in (
      status.control_is ∙ ap (λ (t : Bool). if t then control_in (block_saying control filling) else before) at ∙ says.control_is,
      λ u less.
          status.fills_are u less
          ∙ ap (λ (t : Bool). (if t then is_filling (block_saying control filling) else fills_of fills) u) at
          ∙ says.fills_are u (omega (arith, is.last, is.volumes, less)),
    )
