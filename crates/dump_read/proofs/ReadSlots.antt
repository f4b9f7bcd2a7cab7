-- A slot of a full dump that is read: label and format 4 where they have to be, and why it is none.
use Rattle.std.proofs.Common.{◌≡◌, ◌≢◌, ◌⊎◌, inl, inr, ℕ, zero, suc, ◌+◌, ◌≤◌, ◌<◌, min, Bool, true, List, [], ◌∷◌, ◌++◌, length, take, drop, Option, Some, None, refl, sym, ap, subst, ◌∙◌, arith, length-append, append_assoc}
use Rattle.std.specs.Prelude.{slice_get}
use Rattle.std.proofs.lemmas.Bool.{cases_lt}
use Rattle.std.proofs.lemmas.Option.{same_Some, slice_get_within}
use Rattle.sha2.specs.Hashers.{Holds256}
use Rattle.byteorder.specs.Endian.{big_bytes}
use Rattle.ckd_image.specs.declared.device.Device.{Device}
use Rattle.ckd_image.specs.declared.device.Device.TheVariants.{D3390, D3380, D3350}
use Rattle.ckd_image.specs.declared.track.Track.{Track as Text}
use Rattle.ckd_image.specs.Bytes.{Begins}
use Rattle.ckd_image.specs.Device.{slot_of}
use Rattle.vol_label.specs.declared.label.Label.{Label}
use Rattle.dump_fmt.specs.declared.fault.DumpFault.{DumpFault}
use Rattle.dump_fmt.specs.declared.fault.DumpFault.TheVariants as faults
use Rattle.dump_fmt.specs.declared.piece.DumpHead.{DumpHead}
use Rattle.dump_fmt.specs.declared.piece.Piece.TheVariants as pieces
use Rattle.dump_fmt.specs.Head.{IsDumpHead, IsVtocTrack}
use Rattle.dump_fmt.specs.Pieces.{piece_text}
use Rattle.dump_fmt.specs.Front.{Front, HoldsTrack, HasLabel, HasFormat4, IsFull, IsCutSlot, IsOfKind, IsFront, with_slot}
use Rattle.dump_fmt.specs.Text.{front_text}
use Rattle.dump_read.specs.declared.feed.Feed.{Feed}
use Rattle.dump_read.specs.declared.field.DumpField.TheVariants as fields
use Rattle.dump_read.specs.declared.mark.Mark.TheVariants as marks
use Rattle.dump_read.specs.declared.slot.SlotField.{SlotField}
use Rattle.dump_read.specs.declared.slot.SlotField.TheVariants as slot_fields
use Rattle.dump_read.specs.declared.slot.SlotStop.{SlotStop}
use Rattle.dump_read.specs.declared.slot.SlotStop.TheVariants as stops
use Rattle.dump_read.specs.declared.standing.Standing.{Standing}
use Rattle.dump_read.specs.Faults.{why_of, LacksRecord, IsBadField, IsBadSlot, HasMore, IsFaultBehind}
use Rattle.dump_read.specs.Feed.{largest_offset}
use Rattle.dump_read.specs.Labelled.{IsLabelSlot, IsFormat4Slot}
use Rattle.dump_read.specs.Marks.{byte_of, MayBegin, MayStand}
use Rattle.dump_read.specs.Reader.{ReaderView, IsMarked, IsLabelled, IsLabelFault, Gives}
use Rattle.dump_read.specs.Shape.{AreSlots, IsGoing}
use Rattle.dump_read.specs.SlotText.{slot_text, place_of, HasLength, IsSlotText, IsSlotStop, IsSlotRead}
use Rattle.dump_read.specs.Standing.{StandsAt, KeepsLabel, IsLabelledBy, Steps}
use Rattle.dump_read.specs.Tape.{TapeSeen}
use Rattle.dump_read.proofs.Going.{slots_by}
use Rattle.dump_read.proofs.Languages.{slots_full, slot_adds, slot_long, slot_language}
use Rattle.dump_read.proofs.Reaches.{slot_reaches}
use Rattle.dump_read.proofs.Ahead.{mark_ahead, told_ahead, field_refused, cut_refused, piece_read}

-- ---- the header of a full dump

vtoc_behind : (full : Bool) (tracks vtoc : ℕ) → full ≡ true → IsVtocTrack full tracks vtoc → 1 ≤ vtoc
vtoc_behind full tracks vtoc is there = (subst (λ (b : Bool). IsVtocTrack b tracks vtoc) is there).0

-- ---- what has to be in a slot

no_slots : (slots : List (List ℕ)) → length slots ≡ 0 → slots ≡ []
no_slots [] none = refl
no_slots (slot ∷ slots) none = absurd (omega (arith, none))

pub label_found : (head : DumpHead) (front : Front) (standing : Standing) (bytes : List ℕ) (label : Label) → head.full ≡ true → IsDumpHead head → StandsAt head front standing → standing.slots ≡ 0
    → IsLabelSlot head bytes label → IsLabelled head front bytes (Some label)
label_found head front standing bytes label full sound stands first is = record {
  first = λ none. (label, refl, is);
  format_4 = λ at. absurd (omega (arith, at, stands.slots, first, vtoc_behind head.full head.tracks head.vtoc full sound.vtoc));
}

pub label_lacks : (head : DumpHead) (front : Front) (standing : Standing) (bytes : List ℕ) → StandsAt head front standing → standing.slots ≡ 0 → ((label : Label) → ¬ IsLabelSlot head bytes label)
    → LacksRecord head front.slots bytes
label_lacks head front standing bytes stands first none = inl (no_slots front.slots (sym stands.slots ∙ first), none)

kept_label : (head : DumpHead) (slots : List (List ℕ)) (kept : Option Label) (label : Label) → KeepsLabel head slots kept → kept ≡ Some label → 0 < length slots → HasLabel head slots label
kept_label head [] kept label keeps there some = absurd (omega (arith, some))
kept_label head (slot ∷ slots) kept label (other, same, has) there some = subst (HasLabel head (slot ∷ slots)) (same_Some other label (sym same ∙ there)) has

pub format_4_found : (head : DumpHead) (front : Front) (standing : Standing) (bytes : List ℕ) (label : Label) → StandsAt head front standing → standing.slots ≢ 0 → standing.label ≡ Some label
    → IsFormat4Slot head label bytes → IsLabelled head front bytes None
format_4_found head front standing bytes label stands behind there is = record {
  first = λ none. absurd (behind (stands.slots ∙ ap length none));
  format_4 = λ at. (label, kept_label head front.slots standing.label label stands.label there (omega (arith, behind, stands.slots)), is);
}

pub format_4_lacks : (head : DumpHead) (front : Front) (standing : Standing) (bytes : List ℕ) (label : Label) → StandsAt head front standing → standing.slots ≢ 0 → standing.label ≡ Some label
    → standing.slots ≡ head.vtoc → ¬ IsFormat4Slot head label bytes → LacksRecord head front.slots bytes
format_4_lacks head front standing bytes label stands behind there at none =
    inr (sym stands.slots ∙ at, (label, kept_label head front.slots standing.label label stands.label there (omega (arith, behind, stands.slots)), none))

pub lacks_so : (head : DumpHead) (front : Front) (feed : Feed) (bytes : List ℕ) (fault : DumpFault) → fault ≡ faults.BadDump feed.offset 9 → LacksRecord head front.slots bytes
    → IsLabelFault head front feed bytes fault
lacks_so head front feed bytes fault same lacks = subst (IsLabelFault head front feed bytes) (sym same) (refl, refl, lacks)

-- ---- one slot more

slice_before : {X : Type 0} (xs : List X) (x : X) (i : ℕ) → i < length xs → slice_get (xs ++ x ∷ []) i ≡ slice_get xs i
slice_before [] x i within = absurd (omega (arith, within))
slice_before (y ∷ xs) x zero within = refl
slice_before (y ∷ xs) x (suc i) within = slice_before xs x i (omega (arith, within))

slice_last : {X : Type 0} (xs : List X) (x : X) → slice_get (xs ++ x ∷ []) (length xs) ≡ Some x
slice_last [] x = refl
slice_last (y ∷ xs) x = slice_last xs x

holds_more : (device : Device) (slots : List (List ℕ)) (bytes : List ℕ) (number : ℕ) (track : Text) → HoldsTrack device slots number track → HoldsTrack device (slots ++ bytes ∷ []) number track
holds_more device slots bytes number track is = record {
  bytes = is.bytes;
  there = slice_before slots bytes number (slice_get_within slots number is.bytes is.there) ∙ is.there;
  text = is.text;
}

label_more : (head : DumpHead) (slots : List (List ℕ)) (bytes : List ℕ) (label : Label) → HasLabel head slots label → HasLabel head (slots ++ bytes ∷ []) label
label_more head slots bytes label is = record { track = is.track; holds = holds_more head.device slots bytes 0 is.track is.holds; label_there = is.label_there; pointer = is.pointer }

format_4_more : (head : DumpHead) (slots : List (List ℕ)) (bytes : List ℕ) → HasFormat4 head slots → HasFormat4 head (slots ++ bytes ∷ [])
format_4_more head slots bytes is = record {
  label = is.label;
  track = is.track;
  rec = is.rec;
  named = label_more head slots bytes is.label is.named;
  holds = holds_more head.device slots bytes head.vtoc is.track is.holds;
  numbered = is.numbered;
  key = is.key;
  body = is.body;
  format = is.format;
}

format_4_last : (head : DumpHead) (slots : List (List ℕ)) (bytes : List ℕ) (label : Label) → length slots ≡ head.vtoc → HasLabel head slots label → IsFormat4Slot head label bytes
    → HasFormat4 head (slots ++ bytes ∷ [])
format_4_last head slots bytes label at named is = record {
  label = label;
  track = is.track;
  rec = is.rec;
  named = label_more head slots bytes label named;
  holds = record { bytes = bytes; there = subst (λ (n : ℕ). slice_get (slots ++ bytes ∷ []) n ≡ Some bytes) at (slice_last slots bytes); text = is.text };
  numbered = is.numbered;
  key = is.key;
  body = is.body;
  format = is.format;
}

labelled_with : (head : DumpHead) (slots : List (List ℕ)) (bytes : List ℕ) (found : Option Label) → (0 < length slots → (label : Label) × HasLabel head slots label)
    → (slots ≡ [] → (label : Label) × (found ≡ Some label) × IsLabelSlot head bytes label) → (label : Label) × HasLabel head (slots ++ bytes ∷ []) label
labelled_with head [] bytes found before first =
    let (label, same, is) = first refl in
    (label, record { track = is.track; holds = record { bytes = bytes; there = refl; text = is.text }; label_there = is.label_there; pointer = is.pointer })
labelled_with head (slot ∷ slots) bytes found before first = let (label, is) = before (omega arith) in (label, label_more head (slot ∷ slots) bytes label is)

full_with : (head : DumpHead) (front : Front) (bytes : List ℕ) (found : Option Label) → AreSlots head (with_slot front bytes) → IsFull head front → IsLabelled head front bytes found
    → IsFull head (with_slot front bytes)
full_with head front bytes found slots is labelled = record {
  no_parts = slots.no_parts;
  no_current = slots.no_current;
  slots = slots.slots;
  few = slots.few;
  labelled = λ some. labelled_with head front.slots bytes found is.labelled labelled.first;
  format_4 = λ less. elim (cases_lt head.vtoc (length front.slots)) [
    | inl before ↦ format_4_more head front.slots bytes (is.format_4 before)
    | inr behind ↦
        let at : length front.slots ≡ head.vtoc = omega (arith, less, behind, length-append front.slots (bytes ∷ [])) in
        let (label, named, there) = labelled.format_4 at in
        format_4_last head front.slots bytes label at named there
  ];
}

pub front_with : (head : DumpHead) (front : Front) (bytes : List ℕ) (found : Option Label) → IsGoing head (with_slot front bytes) → IsFront head front → IsLabelled head front bytes found
    → IsFront head (with_slot front bytes)
front_with head front bytes found going is labelled =
    let full : head.full ≡ true = slots_full head.full head front bytes going.is_front.behind in
    let slots : AreSlots head (with_slot front bytes) = slots_by head.full head (with_slot front bytes) full going.is_front.behind in
    let before : IsFull head front = subst (λ (b : Bool). IsOfKind b head front) full is.behind in
    record {
      header = is.header;
      behind = subst (λ (b : Bool). IsOfKind b head (with_slot front bytes)) (sym full) (full_with head front bytes found slots before labelled);
      few_tracks = going.is_front.few_tracks;
    }

-- ---- why no slot is read

-- only a piece begins as a slot does
begins_slot : (head : DumpHead) (front : Front) → MayStand head front (byte_of marks.Slot) → MayBegin head front (byte_of marks.Slot)
begins_slot head front (inl may) = may
begins_slot head front (inr (is, closes)) = absurd (omega (arith, is))

length_with : (field : SlotField) (number count : ℕ) (text more : List ℕ) → HasLength field number text count → HasLength field number (text ++ more) count
length_with slot_fields.Track number count text more is = is
length_with slot_fields.Length number count text more is = is
length_with slot_fields.Bytes number count text more (few, (rest, is)) =
    (few, (rest ++ more, ap (λ (t : List ℕ). t ++ more) is ∙ append_assoc (big_bytes 4 number ++ big_bytes 4 count) rest more))

-- a field is wrong
pub slot_wrong : (tape : TapeSeen) (reader : ReaderView) (front : Front) (stop : SlotStop) (field : SlotField) (place : ℕ) (fault : DumpFault) → IsMarked tape reader front marks.Slot
    → IsSlotStop reader.head.device reader.standing.slots (drop 1 reader.feed.window) stop → stop ≡ stops.Wrong field → place ≡ place_of field
    → fault ≡ faults.BadDump (min (reader.feed.offset + (1 + place)) largest_offset) (why_of (fields.Slot field)) → IsFaultBehind reader.head front tape.held fault
slot_wrong tape reader front stop field place fault is stopped there at same =
    let head : DumpHead = reader.head in
    let ahead : List ℕ = drop 1 reader.feed.window in
    let (count, has, wrong) = subst (IsSlotStop head.device reader.standing.slots ahead) there stopped in
    field_refused tape reader front marks.Slot (IsSlotText head.device reader.standing.slots) (fields.Slot field) (place_of field) count fault is
    (slot_language head front reader.standing is.reading.going is.reading.stands (begins_slot head front is.may)) (slot_reaches head.device reader.standing.slots field ahead count has) wrong
    (λ more. ((ahead ++ more, refl), refl, subst (λ (n : ℕ). HasLength field n (ahead ++ more) count) is.reading.stands.slots (length_with field reader.standing.slots count ahead more has)))
    (same ∙ ap (λ (n : ℕ). faults.BadDump (min (reader.feed.offset + (1 + n)) largest_offset) (why_of (fields.Slot field))) at)

slot_within : (device : Device) → slot_of device ≤ 56832
slot_within D3390 = omega arith
slot_within D3380 = omega arith
slot_within D3350 = omega arith

-- it is cut
pub slot_cut : (tape : TapeSeen) (reader : ReaderView) (front : Front) (stop : SlotStop) (fault : DumpFault) → IsMarked tape reader front marks.Slot
    → IsSlotStop reader.head.device reader.standing.slots (drop 1 reader.feed.window) stop → stop ≡ stops.Cut
    → fault ≡ faults.Truncated (min (reader.feed.offset + length reader.feed.window) largest_offset) → IsFaultBehind reader.head front tape.held fault
slot_cut tape reader front stop fault is stopped there same =
    let head : DumpHead = reader.head in
    let (text, it, begins, short) = subst (IsSlotStop head.device reader.standing.slots (drop 1 reader.feed.window)) there stopped in
    cut_refused tape reader front marks.Slot (IsSlotText head.device reader.standing.slots) text fault is
    (slot_language head front reader.standing is.reading.going is.reading.stands (begins_slot head front is.may)) it begins short
    (omega (arith, ap length it.spelled, slot_long reader.standing.slots it.bytes, it.cut.0, slot_within head.device)) same

-- slots stand in full dumps
pub slot_full : (tape : TapeSeen) (reader : ReaderView) (front : Front) → IsMarked tape reader front marks.Slot → reader.head.full ≡ true
slot_full tape reader front is =
    let head : DumpHead = reader.head in
    let may : MayBegin head front (byte_of marks.Slot) = begins_slot head front is.may in
    let none : IsCutSlot head.device [] = (omega arith, λ more e. absurd (omega (arith, ap length e, length-append more (0 ∷ [])))) in
    let next : IsGoing head (with_slot front []) = slot_adds head front reader.standing [] is.reading.going is.reading.stands may none in
    slots_full head.full head front [] next.is_front.behind

-- what stands ahead begins with the slot
slot_ahead : (tape : TapeSeen) (reader : ReaderView) (front : Front) (bytes : List ℕ) → IsMarked tape reader front marks.Slot
    → IsSlotRead reader.head.device reader.standing.slots (drop 1 reader.feed.window) bytes → Begins (piece_text (pieces.Slot reader.standing.slots bytes)) reader.feed.window
slot_ahead tape reader front bytes is read = (read.begins.0, mark_ahead reader marks.Slot is.ahead ∙ ap (λ (t : List ℕ). 0x54 ∷ t) read.begins.1)

-- it lacks a record that it has to have
pub slot_lacks : (tape : TapeSeen) (reader : ReaderView) (front : Front) (bytes : List ℕ) (fault : DumpFault) → IsMarked tape reader front marks.Slot
    → IsSlotRead reader.head.device reader.standing.slots (drop 1 reader.feed.window) bytes → IsLabelFault reader.head front reader.feed bytes fault → IsFaultBehind reader.head front tape.held fault
slot_lacks tape reader front bytes (faults.BadDump offset why) is read (at, number, lacks) =
    let head : DumpHead = reader.head in
    let before : List ℕ = front_text head front in
    let text : List ℕ = slot_text reader.standing.slots bytes in
    told_ahead tape reader front marks.Slot (λ whole. IsBadField head front offset why whole ⊎ (IsBadSlot head front offset why whole ⊎ HasMore head front offset why whole)) is
    (λ whole more spelled. inr (inl (record {
      bytes = bytes;
      rest = read.begins.0 ++ more;
      full = slot_full tape reader front is;
      cut = read.cut;
      spelled = spelled ∙ ap (λ (t : List ℕ). before ++ (0x54 ∷ (t ++ more))) read.begins.1 ∙ ap (λ (t : List ℕ). before ++ (0x54 ∷ t)) (append_assoc text read.begins.0 more)
          ∙ ap (λ (n : ℕ). before ++ (0x54 ∷ (slot_text n bytes ++ (read.begins.0 ++ more)))) is.reading.stands.slots;
      lacks = lacks;
      at = at ∙ is.reading.read.offset;
      number = number;
    })))
slot_lacks tape reader front bytes (faults.Truncated count) is read wrong = absurd wrong
slot_lacks tape reader front bytes (faults.DigestDiffers kept found) is read wrong = absurd wrong
slot_lacks tape reader front bytes faults.Reel is read wrong = absurd wrong
slot_lacks tape reader front bytes faults.NoMemory is read free = tt

-- ---- a slot that is read

labelled_by : (head : DumpHead) (front : Front) (standing : Standing) (bytes : List ℕ) (found : Option Label) → StandsAt head front standing → IsLabelled head front bytes found
    → IsLabelledBy head standing bytes found
labelled_by head front standing bytes found stands is = λ first. is.first (no_slots front.slots (sym stands.slots ∙ first))

pub slot_given : (tape : TapeSeen) (old new : ReaderView) (front : Front) (bytes : List ℕ) (found : Option Label) (count : ℕ) → IsMarked tape old front marks.Slot
    → IsSlotRead old.head.device old.standing.slots (drop 1 old.feed.window) bytes → IsLabelled old.head front bytes found
    → (IsLabelledBy old.head old.standing bytes found → Steps old.head old.standing (pieces.Slot old.standing.slots bytes) new.standing) → count ≡ length bytes
    → new.head ≡ old.head → new.feed.window ≡ drop (count + 9) old.feed.window → new.feed.offset ≡ min (old.feed.offset + (count + 9)) largest_offset
    → ((message : List ℕ) → Holds256 old.feed.digest message → Holds256 new.feed.digest (message ++ take (count + 9) old.feed.window))
    → Gives tape new front (pieces.Slot old.standing.slots bytes)
slot_given tape old new front bytes found count is read labelled steps all same window offset digest =
    let head : DumpHead = old.head in
    let reading = is.reading in
    let next : Front = with_slot front bytes in
    let going : IsGoing head next = slot_adds head front old.standing bytes reading.going reading.stands (begins_slot head front is.may) read.cut in
    piece_read tape old new front next marks.Slot (pieces.Slot old.standing.slots bytes) (count + 9) is (reading.stands.slots, refl) going
    (front_with head front bytes found going reading.is_front labelled)
    (steps (labelled_by head front old.standing bytes found reading.stands labelled) front next reading.going reading.stands (reading.stands.slots, refl) going)
    (slot_ahead tape old front bytes is read)
    (omega (arith, slot_long old.standing.slots bytes, all)) same window offset digest
