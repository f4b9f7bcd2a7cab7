-- One thing is wrong with what is no dump.
use Rattle.std.proofs.Common.{◌≡◌, inl, inr, ℕ, ◌+◌, ◌≤◌, ◌<◌, Bool, true, false, List, [], ◌∷◌, ◌++◌, length, Some, refl, sym, ap, subst, ◌∙◌, arith, length-append, append_assoc}
use Rattle.std.proofs.lemmas.Bool.{cases_lt}
use Rattle.std.proofs.lemmas.List.{append-nil, append_cancel_left}
use Rattle.sha2.specs.Sha256.{sha256}
use Rattle.ckd_image.specs.Bytes.{Begins}
use Rattle.dump_fmt.specs.declared.fault.DumpFault.TheVariants.{BadDump, Truncated, DigestDiffers, Reel, NoMemory}
use Rattle.dump_fmt.specs.declared.piece.DumpHead.{DumpHead}
use Rattle.dump_fmt.specs.Pieces.{piece_text}
use Rattle.dump_fmt.specs.Front.{Front, IsFront, front_pieces}
use Rattle.dump_fmt.specs.Text.{front_text, counts_text, digested_text}
use Rattle.dump_read.specs.declared.header.HeaderField.{HeaderField}
use Rattle.dump_read.specs.declared.header.HeaderField.TheVariants as heads
use Rattle.dump_read.specs.FaultLaws.{OneIsWrong}
use Rattle.dump_read.specs.Faults.{IsFieldAt, IsBadHead, IsBadField, IsBadSlot, HasMore, IsShortDump, HasOtherDigest, IsFaultBehind, IsDumpFault}
use Rattle.dump_read.specs.Fields.{GoesOn}
use Rattle.dump_read.specs.Header as header
use Rattle.dump_read.specs.Shape.{IsGoing, IsSomeShape}
use Rattle.dump_read.proofs.Chains.{within_first}
use Rattle.dump_read.proofs.FieldPlaces.{field_in_piece, field_in_end, one_field}
use Rattle.dump_read.proofs.Going.{logical_by, slots_by}
use Rattle.dump_read.proofs.NothingWrong.{same_digest}
use Rattle.dump_read.proofs.OneFront.{HasPiece, piece_bounded, more_there, two_fronts, one_text}
use Rattle.dump_read.proofs.Shapes.{AreAlike, alike, fronts_go_on, no_shape_begins, pieces_stand_behind}
use Rattle.dump_read.proofs.Faulted.{HasStood, not_wrong, wrong_none, wrong_there, both_wrong, field_stood, more_ended, digest_ended, cut_stood, stood_goes, stood_long, slot_stood, more_none, not_short, same_slots, piece_behind, no_piece_ended, no_piece_cut, one_slot}

-- ---- fields of the header

header_ends : (field : HeaderField) → header.offset_of field + header.length_of field ≤ 32
header_ends heads.Magic = omega arith
header_ends heads.Kind = omega arith
header_ends heads.Device = omega arith
header_ends heads.Serial = omega arith
header_ends heads.Tracks = omega arith
header_ends heads.Vtoc = omega arith
header_ends heads.Zeros = omega arith

-- fields that have a byte in common are one
one_header : (field other : HeaderField) → header.offset_of other < header.offset_of field + header.length_of field → header.offset_of field < header.offset_of other + header.length_of other
    → (header.offset_of field ≡ header.offset_of other) × (header.why_of field ≡ header.why_of other)
one_header heads.Magic heads.Magic less before = (refl, refl)
one_header heads.Magic heads.Kind less before = absurd (omega (arith, less))
one_header heads.Magic heads.Device less before = absurd (omega (arith, less))
one_header heads.Magic heads.Serial less before = absurd (omega (arith, less))
one_header heads.Magic heads.Tracks less before = absurd (omega (arith, less))
one_header heads.Magic heads.Vtoc less before = absurd (omega (arith, less))
one_header heads.Magic heads.Zeros less before = absurd (omega (arith, less))
one_header heads.Kind heads.Magic less before = absurd (omega (arith, before))
one_header heads.Kind heads.Kind less before = (refl, refl)
one_header heads.Kind heads.Device less before = absurd (omega (arith, less))
one_header heads.Kind heads.Serial less before = absurd (omega (arith, less))
one_header heads.Kind heads.Tracks less before = absurd (omega (arith, less))
one_header heads.Kind heads.Vtoc less before = absurd (omega (arith, less))
one_header heads.Kind heads.Zeros less before = absurd (omega (arith, less))
one_header heads.Device heads.Magic less before = absurd (omega (arith, before))
one_header heads.Device heads.Kind less before = absurd (omega (arith, before))
one_header heads.Device heads.Device less before = (refl, refl)
one_header heads.Device heads.Serial less before = absurd (omega (arith, less))
one_header heads.Device heads.Tracks less before = absurd (omega (arith, less))
one_header heads.Device heads.Vtoc less before = absurd (omega (arith, less))
one_header heads.Device heads.Zeros less before = absurd (omega (arith, less))
one_header heads.Serial heads.Magic less before = absurd (omega (arith, before))
one_header heads.Serial heads.Kind less before = absurd (omega (arith, before))
one_header heads.Serial heads.Device less before = absurd (omega (arith, before))
one_header heads.Serial heads.Serial less before = (refl, refl)
one_header heads.Serial heads.Tracks less before = absurd (omega (arith, less))
one_header heads.Serial heads.Vtoc less before = absurd (omega (arith, less))
one_header heads.Serial heads.Zeros less before = absurd (omega (arith, less))
one_header heads.Tracks heads.Magic less before = absurd (omega (arith, before))
one_header heads.Tracks heads.Kind less before = absurd (omega (arith, before))
one_header heads.Tracks heads.Device less before = absurd (omega (arith, before))
one_header heads.Tracks heads.Serial less before = absurd (omega (arith, before))
one_header heads.Tracks heads.Tracks less before = (refl, refl)
one_header heads.Tracks heads.Vtoc less before = absurd (omega (arith, less))
one_header heads.Tracks heads.Zeros less before = absurd (omega (arith, less))
one_header heads.Vtoc heads.Magic less before = absurd (omega (arith, before))
one_header heads.Vtoc heads.Kind less before = absurd (omega (arith, before))
one_header heads.Vtoc heads.Device less before = absurd (omega (arith, before))
one_header heads.Vtoc heads.Serial less before = absurd (omega (arith, before))
one_header heads.Vtoc heads.Tracks less before = absurd (omega (arith, before))
one_header heads.Vtoc heads.Vtoc less before = (refl, refl)
one_header heads.Vtoc heads.Zeros less before = absurd (omega (arith, less))
one_header heads.Zeros heads.Magic less before = absurd (omega (arith, before))
one_header heads.Zeros heads.Kind less before = absurd (omega (arith, before))
one_header heads.Zeros heads.Device less before = absurd (omega (arith, before))
one_header heads.Zeros heads.Serial less before = absurd (omega (arith, before))
one_header heads.Zeros heads.Tracks less before = absurd (omega (arith, before))
one_header heads.Zeros heads.Vtoc less before = absurd (omega (arith, before))
one_header heads.Zeros heads.Zeros less before = (refl, refl)

-- ---- two places that are refused

same_bad : (offset why place reason : ℕ) → offset ≡ place → why ≡ reason → BadDump offset why ≡ BadDump place reason
same_bad offset why place reason p q = ap (λ (n : ℕ). BadDump n why) p ∙ ap (λ (n : ℕ). BadDump place n) q

head_head : (whole : List ℕ) (offset why place reason : ℕ) → IsBadHead offset why whole → IsBadHead place reason whole → BadDump offset why ≡ BadDump place reason
head_head whole offset why place reason bad other =
    let here = header.length_of bad.field in
    let there = header.length_of other.field in
    let less = both_wrong whole offset here place there bad.wrong other.wrong in
    let before = both_wrong whole place there offset here other.wrong bad.wrong in
    let same = one_header bad.field other.field (omega (arith, less, bad.at, other.at)) (omega (arith, before, bad.at, other.at)) in
    same_bad offset why place reason (bad.at ∙ same.0 ∙ sym other.at) (bad.number ∙ same.1 ∙ sym other.number)

-- a header that stands there isn't wrong
head_behind : (whole : List ℕ) (offset why : ℕ) (head : DumpHead) (front : Front) → HasStood head front whole → ¬ IsBadHead offset why whole
head_behind whole offset why head front stood bad =
    not_wrong whole (front_text head front) stood.rest offset (header.length_of bad.field) bad.wrong (stood_goes head front whole stood) stood.spelled
    (omega (arith, header_ends bad.field, bad.at, (stood_long head front whole stood).0))

-- nor is a field of a piece that stands whole
field_piece : (whole : List ℕ) (offset why : ℕ) (head : DumpHead) (front : Front) → IsBadField head front offset why whole → (stood : HasStood head front whole) → ¬ HasPiece head front stood.rest
field_piece whole offset why head front bad stood has =
    let before : List ℕ = front_text head front in
    let text : List ℕ = piece_text has.piece in
    let same : bad.rest ≡ stood.rest = append_cancel_left before bad.rest stood.rest (sym bad.spelled ∙ stood.spelled) in
    let rest_is : bad.rest ≡ text ++ has.behind = same ∙ has.rest_is in
    let there = wrong_there whole (length before + bad.place) bad.count bad.wrong in
    let within : bad.place ≤ length bad.rest = omega (arith, there, ap length bad.spelled, length-append before bad.rest) in
    let inside = field_in_piece front has.next has.piece bad.rest has.behind bad.field bad.place bad.count has.adds (piece_bounded head front has.next has.piece has.adds has.going) rest_is bad.is_at within in
    let stands : front_text head has.next ≡ before ++ text = pieces_stand_behind head front has.next has.piece has.going.is_front has.adds in
    let all : whole ≡ front_text head has.next ++ has.behind =
    bad.spelled ∙ ap (λ (t : List ℕ). before ++ t) rest_is ∙ sym (append_assoc before text has.behind) ∙ ap (λ (t : List ℕ). t ++ has.behind) (sym stands) in
    not_wrong whole (front_text head has.next) has.behind (length before + bad.place) bad.count bad.wrong (fronts_go_on head has.next has.going) all
    (omega (arith, inside, ap length stands, length-append before text))

-- as many slots stand before both
slots_alike : (full : Bool) (head other : DumpHead) (front last : Front) → head.full ≡ full → AreAlike head other → IsGoing head front → IsGoing other last → front_pieces front ≡ front_pieces last
    → length last.slots ≡ length front.slots
slots_alike true head other front last full same going on pieces =
    let here = slots_by head.full head front full going.is_front.behind in
    let there = slots_by other.full other last (sym same.full ∙ full) on.is_front.behind in
    same_slots front last pieces here.no_parts here.no_current there.no_parts there.no_current
slots_alike false head other front last full same going on pieces =
    let here = logical_by head.full head front full going.is_front.behind in
    let there = logical_by other.full other last (sym same.full ∙ full) on.is_front.behind in
    ap length (there.no_slots ∙ sym here.no_slots)

module _ (whole : List ℕ) (head other : DumpHead) (front last : Front) (offset why place reason : ℕ) (is : IsFront head front) (also : IsFront other last) where
  field_here : IsBadField head front offset why whole → IsBadField other last place reason whole → front_text head front ≡ front_text other last → length last.slots ≡ length front.slots
      → BadDump offset why ≡ BadDump place reason
  field_here bad wrong text slots =
      let before : List ℕ = front_text head front in
      let long : length before ≡ length (front_text other last) = ap length text in
      let rest : wrong.rest ≡ bad.rest =
      append_cancel_left (front_text other last) wrong.rest bad.rest (sym wrong.spelled ∙ bad.spelled ∙ ap (λ (t : List ℕ). t ++ bad.rest) text) in
      let at : IsFieldAt wrong.field (length front.slots) bad.rest wrong.place wrong.count =
      subst (λ (t : List ℕ). IsFieldAt wrong.field (length front.slots) t wrong.place wrong.count) rest
      (subst (λ (n : ℕ). IsFieldAt wrong.field n wrong.rest wrong.place wrong.count) slots wrong.is_at) in
      let here = wrong_there whole (length before + bad.place) bad.count bad.wrong in
      let there = wrong_there whole (length (front_text other last) + wrong.place) wrong.count wrong.wrong in
      let all : length whole ≡ length before + length bad.rest = ap length bad.spelled ∙ length-append before bad.rest in
      let less = both_wrong whole (length before + bad.place) bad.count (length (front_text other last) + wrong.place) wrong.count bad.wrong wrong.wrong in
      let more = both_wrong whole (length (front_text other last) + wrong.place) wrong.count (length before + bad.place) bad.count wrong.wrong bad.wrong in
      let same = one_field bad.field wrong.field (length front.slots) bad.rest bad.place bad.count wrong.place wrong.count bad.is_at at (omega (arith, here, all)) (omega (arith, there, all, long))
      (omega (arith, less, long)) (omega (arith, more, long)) in
      same_bad offset why place reason (omega (arith, bad.at, wrong.at, long, same.0)) (bad.number ∙ same.1 ∙ sym wrong.number)

  field_field : IsBadField head front offset why whole → IsBadField other last place reason whole → BadDump offset why ≡ BadDump place reason
  field_field bad wrong =
      let stood = field_stood head front offset why whole is bad in
      let there = field_stood other last place reason whole also wrong in
      let fronts = two_fronts whole head other front last stood.rest there.rest stood.going there.going stood.spelled there.spelled in
      elim fronts.pieces [
        | inl same ↦
            let heads_are = alike head other stood.going.is_front.header there.going.is_front.header fronts.headers in
            field_here bad wrong (one_text head other front last fronts.headers same) (slots_alike head.full head other front last refl heads_are stood.going there.going same)
        | inr (inl more) ↦ absurd (field_piece whole offset why head front bad stood (more_there head other front last stood.rest there.rest stood.going there.going fronts.headers more))
        | inr (inr more) ↦ absurd (field_piece whole place reason other last wrong there (more_there other head last front there.rest stood.rest there.going stood.going (sym fronts.headers) more))
      ]

  field_slot : IsBadField head front offset why whole → ¬ IsBadSlot other last place reason whole
  field_slot bad wrong =
      let stood = field_stood head front offset why whole is bad in
      field_piece whole offset why head front bad stood (piece_behind other head last front place reason whole wrong also stood)

  field_more : IsBadField head front offset why whole → ¬ HasMore other last place reason whole
  field_more bad has =
      let stood = field_stood head front offset why whole is bad in
      let ended = more_ended other last place reason whole also has in
      let there = ended.stood in
      let fronts = two_fronts whole head other front last stood.rest there.rest stood.going there.going stood.spelled there.spelled in
      elim fronts.pieces [
        | inl same ↦
            let text : front_text head front ≡ front_text other last = one_text head other front last fronts.headers same in
            let rest : there.rest ≡ bad.rest = append_cancel_left (front_text other last) there.rest bad.rest (sym there.spelled ∙ bad.spelled ∙ ap (λ (t : List ℕ). t ++ bad.rest) text) in
            let inside = field_in_end (length front.slots) bad.rest bad.field bad.place bad.count (subst (Begins (0x5A ∷ [])) rest ended.trailer) bad.is_at in
            let shape : IsSomeShape has.text = (other, last, has.digest, has.is_shape) in
            not_wrong whole has.text has.more (length (front_text head front) + bad.place) bad.count bad.wrong (has.text, shape, ([], sym (append-nil has.text))) has.spelled
            (omega (
              arith,
              inside,
              ap length text,
              ap length has.is_shape.spelled,
              length-append (digested_text other last) has.digest,
              length-append (front_text other last) (counts_text last),
            ))
        | inr (inl more) ↦ field_piece whole offset why head front bad stood (more_there head other front last stood.rest there.rest stood.going there.going fronts.headers more)
        | inr (inr more) ↦ no_piece_ended other last whole ended (more_there other head last front there.rest stood.rest there.going stood.going (sym fronts.headers) more)
      ]

  slot_slot : IsBadSlot head front offset why whole → IsBadSlot other last place reason whole → BadDump offset why ≡ BadDump place reason
  slot_slot bad wrong =
      let same = one_slot head other front last offset why place reason whole is also bad wrong in
      same_bad offset why place reason (omega (arith, bad.at, wrong.at, same)) (bad.number ∙ sym wrong.number)

  slot_more : IsBadSlot head front offset why whole → ¬ HasMore other last place reason whole
  slot_more bad has =
      let ended = more_ended other last place reason whole also has in
      no_piece_ended other last whole ended (piece_behind head other front last offset why whole bad is ended.stood)

  more_more : HasMore head front offset why whole → HasMore other last place reason whole → BadDump offset why ≡ BadDump place reason
  more_more has more =
      let one : IsSomeShape has.text = (head, front, has.digest, has.is_shape) in
      let two : IsSomeShape more.text = (other, last, more.digest, more.is_shape) in
      let both : has.text ++ has.more ≡ more.text ++ more.more = sym has.spelled ∙ more.spelled in
      let same : has.text ≡ more.text = elim (cases_lt (length has.text) (length more.text)) [
        | inl less ↦ no_shape_begins has.text more.text one two (within_first has.text more.text more.more (omega (arith, less)) (has.more, sym both))
        | inr behind ↦ sym (no_shape_begins more.text has.text two one (within_first more.text has.text has.more behind (more.more, both)))
      ] in
      same_bad offset why place reason (omega (arith, has.at, more.at, ap length same)) (has.number ∙ sym more.number)

behind_stood : (whole : List ℕ) (head : DumpHead) (front : Front) (offset why : ℕ) → IsFront head front → IsFaultBehind head front (Some whole) (BadDump offset why) → HasStood head front whole
behind_stood whole head front offset why is (inl bad) = field_stood head front offset why whole is bad
behind_stood whole head front offset why is (inr (inl bad)) = slot_stood head front offset why whole is bad
behind_stood whole head front offset why is (inr (inr has)) = (more_ended head front offset why whole is has).stood

behind_both : (whole : List ℕ) (head other : DumpHead) (front last : Front) (offset why place reason : ℕ) → IsFront head front → IsFront other last
    → IsFaultBehind head front (Some whole) (BadDump offset why) → IsFaultBehind other last (Some whole) (BadDump place reason) → BadDump offset why ≡ BadDump place reason
behind_both whole head other front last offset why place reason is also (inl bad) (inl wrong) = field_field whole head other front last offset why place reason is also bad wrong
behind_both whole head other front last offset why place reason is also (inl bad) (inr (inl wrong)) = absurd (field_slot whole head other front last offset why place reason is also bad wrong)
behind_both whole head other front last offset why place reason is also (inl bad) (inr (inr has)) = absurd (field_more whole head other front last offset why place reason is also bad has)
behind_both whole head other front last offset why place reason is also (inr (inl bad)) (inl wrong) = absurd (field_slot whole other head last front place reason offset why also is wrong bad)
behind_both whole head other front last offset why place reason is also (inr (inl bad)) (inr (inl wrong)) = slot_slot whole head other front last offset why place reason is also bad wrong
behind_both whole head other front last offset why place reason is also (inr (inl bad)) (inr (inr has)) = absurd (slot_more whole head other front last offset why place reason is also bad has)
behind_both whole head other front last offset why place reason is also (inr (inr has)) (inl wrong) = absurd (field_more whole other head last front place reason offset why also is wrong has)
behind_both whole head other front last offset why place reason is also (inr (inr has)) (inr (inl wrong)) = absurd (slot_more whole other head last front place reason offset why also is wrong has)
behind_both whole head other front last offset why place reason is also (inr (inr has)) (inr (inr more)) = more_more whole head other front last offset why place reason is also has more

-- ---- two refusals

bad_bad : (whole : List ℕ) (offset why place reason : ℕ) → IsDumpFault (Some whole) (BadDump offset why) → IsDumpFault (Some whole) (BadDump place reason) → BadDump offset why ≡ BadDump place reason
bad_bad whole offset why place reason (inl bad) (inl wrong) = head_head whole offset why place reason bad wrong
bad_bad whole offset why place reason (inl bad) (inr (other, last, also, wrong)) = absurd (head_behind whole offset why other last (behind_stood whole other last place reason also wrong) bad)
bad_bad whole offset why place reason (inr (head, front, is, bad)) (inl wrong) = absurd (head_behind whole place reason head front (behind_stood whole head front offset why is bad) wrong)
bad_bad whole offset why place reason (inr (head, front, is, bad)) (inr (other, last, also, wrong)) = behind_both whole head other front last offset why place reason is also bad wrong

short_of : (whole : List ℕ) (count : ℕ) → IsDumpFault (Some whole) (Truncated count) → IsShortDump count whole
short_of whole count (inl short) = short.0
short_of whole count (inr (other, last, is, cut)) = cut.short

short_goes : (whole : List ℕ) (count : ℕ) → IsShortDump count whole → GoesOn IsSomeShape whole
short_goes whole count short = (short.text, short.is_shape, short.begins)

slot_short : (whole : List ℕ) (offset why count : ℕ) (head : DumpHead) (front : Front) → IsFront head front → IsBadSlot head front offset why whole → ¬ IsDumpFault (Some whole) (Truncated count)
slot_short whole offset why count head front is bad (inl short) = absurd (omega (arith, short.1, (stood_long head front whole (slot_stood head front offset why whole is bad)).1))
slot_short whole offset why count head front is bad (inr (other, last, also, cut)) =
    let stood = cut_stood other last count whole also cut in
    no_piece_cut other last count whole stood.rest cut stood.spelled (piece_behind head other front last offset why whole bad is stood)

bad_short : (whole : List ℕ) (offset why count : ℕ) → IsDumpFault (Some whole) (BadDump offset why) → ¬ IsDumpFault (Some whole) (Truncated count)
bad_short whole offset why count (inl bad) cut = wrong_none whole offset (header.length_of bad.field) bad.wrong (short_goes whole count (short_of whole count cut))
bad_short whole offset why count (inr (head, front, is, inl bad)) cut =
    wrong_none whole (length (front_text head front) + bad.place) bad.count bad.wrong (short_goes whole count (short_of whole count cut))
bad_short whole offset why count (inr (head, front, is, inr (inl bad))) cut = slot_short whole offset why count head front is bad cut
bad_short whole offset why count (inr (head, front, is, inr (inr has))) cut = more_none head front offset why whole has (short_goes whole count (short_of whole count cut))

-- a digest that differs stands in a shape
abbrev HasDigest : List ℕ → List ℕ → List ℕ → Type 0
HasDigest whole kept found = (head : DumpHead) × (front : Front) × IsFront head front × HasOtherDigest head front kept found whole

digest_of : (whole kept found : List ℕ) → IsDumpFault (Some whole) (DigestDiffers kept found) → HasDigest whole kept found
digest_of whole kept found (inl none) = absurd none
digest_of whole kept found (inr (head, front, is, (differs, has))) = (head, front, is, has)

digest_shape : (whole kept found : List ℕ) → HasDigest whole kept found → IsSomeShape whole
digest_shape whole kept found (head, front, is, has) = (head, front, kept, has.is_shape)

digest_goes : (whole kept found : List ℕ) → HasDigest whole kept found → GoesOn IsSomeShape whole
digest_goes whole kept found has = (whole, digest_shape whole kept found has, ([], sym (append-nil whole)))

bad_digest : (whole : List ℕ) (offset why : ℕ) (kept found : List ℕ) → IsDumpFault (Some whole) (BadDump offset why) → ¬ HasDigest whole kept found
bad_digest whole offset why kept found (inl bad) has = wrong_none whole offset (header.length_of bad.field) bad.wrong (digest_goes whole kept found has)
bad_digest whole offset why kept found (inr (head, front, is, inl bad)) has = wrong_none whole (length (front_text head front) + bad.place) bad.count bad.wrong (digest_goes whole kept found has)
bad_digest whole offset why kept found (inr (head, front, is, inr (inl bad))) (other, last, also, has) =
    let ended = digest_ended other last kept found whole also has in
    no_piece_ended other last whole ended (piece_behind head other front last offset why whole bad is ended.stood)
bad_digest whole offset why kept found (inr (head, front, is, inr (inr more))) has = more_none head front offset why whole more (digest_goes whole kept found has)

short_short : (whole : List ℕ) (count number : ℕ) → IsShortDump count whole → IsShortDump number whole → Truncated count ≡ Truncated number
short_short whole count number short other = ap (λ (n : ℕ). Truncated n) (short.all ∙ sym other.all)

digest_digest : (whole kept found right other : List ℕ) → HasDigest whole kept found → HasDigest whole right other → DigestDiffers kept found ≡ DigestDiffers right other
digest_digest whole kept found right other (head, front, is, has) (second, last, also, more) =
    let same = same_digest (digested_text head front) (digested_text second last) kept right has.is_shape.long more.is_shape.long (sym has.is_shape.spelled ∙ more.is_shape.spelled) in
    ap (λ (t : List ℕ). DigestDiffers t found) same.1 ∙ ap (λ (t : List ℕ). DigestDiffers right t) (has.right ∙ ap sha256 same.0 ∙ sym more.right)

pub one_is_wrong : OneIsWrong
one_is_wrong whole Reel other p q r s = absurd (r.0 refl)
one_is_wrong whole NoMemory other p q r s = absurd (r.1 refl)
one_is_wrong whole (BadDump offset why) Reel p q r s = absurd (s.0 refl)
one_is_wrong whole (BadDump offset why) NoMemory p q r s = absurd (s.1 refl)
one_is_wrong whole (BadDump offset why) (BadDump place reason) p q r s = bad_bad whole offset why place reason p q
one_is_wrong whole (BadDump offset why) (Truncated count) p q r s = absurd (bad_short whole offset why count p q)
one_is_wrong whole (BadDump offset why) (DigestDiffers kept found) p q r s = absurd (bad_digest whole offset why kept found p (digest_of whole kept found q))
one_is_wrong whole (Truncated count) Reel p q r s = absurd (s.0 refl)
one_is_wrong whole (Truncated count) NoMemory p q r s = absurd (s.1 refl)
one_is_wrong whole (Truncated count) (BadDump place reason) p q r s = absurd (bad_short whole place reason count q p)
one_is_wrong whole (Truncated count) (Truncated number) p q r s = short_short whole count number (short_of whole count p) (short_of whole number q)
one_is_wrong whole (Truncated count) (DigestDiffers kept found) p q r s =
    absurd (not_short count whole (short_of whole count p) (digest_shape whole kept found (digest_of whole kept found q)))
one_is_wrong whole (DigestDiffers kept found) Reel p q r s = absurd (s.0 refl)
one_is_wrong whole (DigestDiffers kept found) NoMemory p q r s = absurd (s.1 refl)
one_is_wrong whole (DigestDiffers kept found) (BadDump place reason) p q r s = absurd (bad_digest whole place reason kept found q (digest_of whole kept found p))
one_is_wrong whole (DigestDiffers kept found) (Truncated count) p q r s =
    absurd (not_short count whole (short_of whole count q) (digest_shape whole kept found (digest_of whole kept found p)))
one_is_wrong whole (DigestDiffers kept found) (DigestDiffers right other) p q r s = digest_digest whole kept found right other (digest_of whole kept found p) (digest_of whole right other q)
