-- What the faults of a dump say of its bytes: what stood before them, and whether a shape goes on with them.
use Rattle.std.proofs.Common.{◌≡◌, inl, inr, ℕ, ◌+◌, ◌≤◌, ◌<◌, min, Bool, true, List, [], ◌∷◌, ◌++◌, length, take, drop, Option, None, IfSome, refl, sym, ap, subst, ◌∙◌, arith, length-append, append_assoc}
use Rattle.std.proofs.lemmas.Bool.{cases_lt}
use Rattle.std.proofs.lemmas.List.{append-nil, append_cancel_left, take-append-drop, length-take}
use Rattle.ckd_image.specs.declared.device.Device.{Device}
use Rattle.ckd_image.specs.Bytes.{Begins}
use Rattle.dump_fmt.specs.declared.piece.DumpHead.{DumpHead}
use Rattle.dump_fmt.specs.declared.piece.Piece.{Piece}
use Rattle.dump_fmt.specs.declared.piece.Piece.TheVariants.{Slot}
use Rattle.dump_fmt.specs.Head.{IsVtocTrack, header_text}
use Rattle.dump_fmt.specs.Pieces.{piece_text, pieces_text}
use Rattle.dump_fmt.specs.Front.{Front, IsFull, IsFront, IsCutSlot, front_pieces, with_slot}
use Rattle.dump_fmt.specs.Text.{front_text, counts_text, digested_text}
use Rattle.dump_read.specs.Faults.{LacksRecord, IsBadField, IsBadSlot, HasMore, IsShortDump, IsCutBehind, HasOtherDigest}
use Rattle.dump_read.specs.Fields.{GoesOn, IsFirstWrong}
use Rattle.dump_read.specs.Shape.{MayEndPart, IsShapeFront, IsGoing, MayClose, IsSomeShape}
use Rattle.dump_read.proofs.Chains.{none_is, within_first, goes_before}
use Rattle.dump_read.proofs.Delimited.{IsBounded, pieces_delimited, no_trailer}
use Rattle.dump_read.proofs.Fed.{long_header}
use Rattle.dump_read.proofs.Going.{slots_by}
use Rattle.dump_read.proofs.Lacking.{full_alike, none_lacks}
use Rattle.dump_read.proofs.Languages.{new_slot}
use Rattle.dump_read.proofs.OneFront.{AreMore, HasPiece, same_vtoc, full_by, full_going, front_going, piece_bounded, more_there, two_fronts, one_text}
use Rattle.dump_read.proofs.Shapes.{alike, pieces_of_slots, fronts_go_on, no_shape_begins}
use Rattle.dump_read.proofs.Stages.{slots_from, slots_on_way}

-- ---- a first wrong field

goes_before_more : (bytes front rest : List ℕ) → bytes ≡ front ++ rest → GoesOn IsSomeShape bytes → GoesOn IsSomeShape front
goes_before_more bytes front rest is goes = goes_before IsSomeShape front rest (subst (GoesOn IsSomeShape) is goes)

-- no shape goes on with bytes behind the field
pub not_wrong : (whole bytes more : List ℕ) (place len : ℕ) → IsFirstWrong IsSomeShape whole place len → GoesOn IsSomeShape bytes → whole ≡ bytes ++ more → ¬ (min (place + len) (length whole) ≤ length bytes)
not_wrong whole bytes more place len is goes e within =
    let field : List ℕ = is.front ++ take len is.rest in
    let left : List ℕ = drop len is.rest in
    let spelled : whole ≡ field ++ left =
    is.spelled ∙ ap (λ (t : List ℕ). is.front ++ t) (sym (take-append-drop len is.rest)) ∙ sym (append_assoc is.front (take len is.rest) left) in
    let short : length field ≤ length bytes =
    omega (arith, within, is.place_is, ap length is.spelled, length-append is.front is.rest, length-append is.front (take len is.rest), length-take len is.rest) in
    let (rest, there) = within_first field bytes more short (left, sym e ∙ spelled) in
    is.wrong (goes_before_more bytes field rest there goes)

pub wrong_none : (whole : List ℕ) (place len : ℕ) → IsFirstWrong IsSomeShape whole place len → ¬ GoesOn IsSomeShape whole
wrong_none whole place len is goes = not_wrong whole whole [] place len is goes (sym (append-nil whole)) (omega arith)

-- and one goes on with what stands before it
pub begun_goes : (whole bytes more : List ℕ) (place len : ℕ) → IsFirstWrong IsSomeShape whole place len → whole ≡ bytes ++ more → length bytes ≤ place → GoesOn IsSomeShape bytes
begun_goes whole bytes more place len is e before =
    let (rest, there) = within_first bytes is.front is.rest (omega (arith, before, is.place_is)) (more, sym is.spelled ∙ e) in
    goes_before_more is.front bytes rest there is.begun

pub wrong_there : (whole : List ℕ) (place len : ℕ) → IsFirstWrong IsSomeShape whole place len → place ≤ length whole
wrong_there whole place len is = omega (arith, is.place_is, ap length is.spelled, length-append is.front is.rest)

-- of two such fields none ends before the other one
pub both_wrong : (whole : List ℕ) (place len other count : ℕ) → IsFirstWrong IsSomeShape whole place len → IsFirstWrong IsSomeShape whole other count → other < place + len
both_wrong whole place len other count is also = elim (cases_lt other (place + len)) [
  | inl less ↦ less
  | inr behind ↦
      absurd (not_wrong whole also.front also.rest place len is also.begun also.spelled (omega (arith, behind, also.place_is)))
]

-- ---- what stood

-- the pieces of a front, behind which pieces can stand
pub record HasStood (head : DumpHead) (front : Front) (whole : List ℕ) : Type 0 where
  pub is_front : IsFront head front
  pub going : IsGoing head front
  pub rest : List ℕ
  pub spelled : whole ≡ front_text head front ++ rest

stood_before : (head : DumpHead) (front : Front) (whole rest : List ℕ) → IsFront head front → whole ≡ front_text head front ++ rest → GoesOn IsSomeShape (front_text head front) → HasStood head front whole
stood_before head front whole rest is e (shape, some, (more, there)) =
    record { is_front = is; going = front_going head front shape more is some there; rest = rest; spelled = e }

closed_going : (head : DumpHead) (front : Front) → IsShapeFront head front → MayClose head front → IsGoing head front
closed_going head front is closes = record { is_front = is; current = subst (λ (o : Option _). IfSome o (MayEndPart front)) (sym closes.ended) tt }

pub field_stood : (head : DumpHead) (front : Front) (offset why : ℕ) (whole : List ℕ) → IsFront head front → IsBadField head front offset why whole → HasStood head front whole
field_stood head front offset why whole is bad =
    stood_before head front whole bad.rest is bad.spelled (begun_goes whole (front_text head front) bad.rest (length (front_text head front) + bad.place) bad.count bad.wrong bad.spelled (omega arith))

pub slot_stood : (head : DumpHead) (front : Front) (offset why : ℕ) (whole : List ℕ) → IsFront head front → IsBadSlot head front offset why whole → HasStood head front whole
slot_stood head front offset why whole is bad = record { is_front = is; going = full_going head front bad.full is; rest = _; spelled = bad.spelled }

-- all pieces, and the trailer behind them
pub record HasEnded (head : DumpHead) (front : Front) (whole : List ℕ) : Type 0 where
  pub stood : HasStood head front whole
  pub trailer : Begins (0x5A ∷ []) stood.rest

pub ended_by : (head : DumpHead) (front : Front) (digest text more whole : List ℕ) → IsFront head front → IsShapeFront head front → MayClose head front → text ≡ digested_text head front ++ digest → whole ≡ text ++ more
    → HasEnded head front whole
ended_by head front digest text more whole is shape closes e there =
    let spelled : whole ≡ front_text head front ++ (counts_text front ++ (digest ++ more)) =
    there ∙ ap (λ (t : List ℕ). t ++ more) e ∙ append_assoc (digested_text head front) digest more ∙ append_assoc (front_text head front) (counts_text front) (digest ++ more) in
    record { stood = record { is_front = is; going = closed_going head front shape closes; rest = counts_text front ++ (digest ++ more); spelled = spelled }; trailer = (_, refl) }

pub more_ended : (head : DumpHead) (front : Front) (offset why : ℕ) (whole : List ℕ) → IsFront head front → HasMore head front offset why whole → HasEnded head front whole
more_ended head front offset why whole is has =
    ended_by head front has.digest has.text has.more whole is has.is_shape.is_front has.is_shape.closes has.is_shape.spelled has.spelled

pub digest_ended : (head : DumpHead) (front : Front) (kept found whole : List ℕ) → IsFront head front → HasOtherDigest head front kept found whole → HasEnded head front whole
digest_ended head front kept found whole is has =
    ended_by head front kept whole [] whole is has.is_shape.is_front has.is_shape.closes has.is_shape.spelled (sym (append-nil whole))

pub cut_stood : (head : DumpHead) (front : Front) (count : ℕ) (whole : List ℕ) → IsFront head front → IsCutBehind head front count whole → HasStood head front whole
cut_stood head front count whole is cut =
    let (more, e) = cut.short.begins in
    let goes : GoesOn IsSomeShape (front_text head front ++ cut.rest) = (cut.short.text, cut.short.is_shape, (more, e ∙ ap (λ (t : List ℕ). t ++ more) cut.spelled)) in
    stood_before head front whole cut.rest is cut.spelled (goes_before IsSomeShape (front_text head front) cut.rest goes)

pub stood_goes : (head : DumpHead) (front : Front) (whole : List ℕ) → HasStood head front whole → GoesOn IsSomeShape (front_text head front)
stood_goes head front whole stood = fronts_go_on head front stood.going

pub stood_long : (head : DumpHead) (front : Front) (whole : List ℕ) → HasStood head front whole → (32 ≤ length (front_text head front)) × (32 ≤ length whole)
stood_long head front whole stood =
    let long = length-append (header_text head) (pieces_text (front_pieces front)) in
    let header = long_header head stood.going.is_front.header in
    (omega (arith, long, header), omega (arith, long, header, ap length stood.spelled, length-append (front_text head front) stood.rest))

-- ---- bytes behind a shape

pub shape_first : (whole text more : List ℕ) → IsSomeShape text → whole ≡ text ++ more → GoesOn IsSomeShape whole → more ≡ []
shape_first whole text more is e (shape, some, (rest, there)) =
    let all : shape ≡ text ++ (more ++ rest) = there ∙ ap (λ (t : List ℕ). t ++ rest) e ∙ append_assoc text more rest in
    let same : text ≡ shape = no_shape_begins text shape is some (more ++ rest, all) in
    none_is more (omega (arith, ap length same, ap length all, length-append text (more ++ rest), length-append more rest))

pub more_none : (head : DumpHead) (front : Front) (offset why : ℕ) (whole : List ℕ) → HasMore head front offset why whole → ¬ GoesOn IsSomeShape whole
more_none head front offset why whole has goes = has.some (shape_first whole has.text has.more (head, front, has.digest, has.is_shape) has.spelled goes)

-- a shape isn't less than one
pub not_short : (count : ℕ) (whole : List ℕ) → IsShortDump count whole → ¬ IsSomeShape whole
not_short count whole short is =
    let same = no_shape_begins whole short.text is short.is_shape short.begins in
    absurd (omega (arith, short.short, ap length same))

-- ---- a bad slot

slot_less : (head : DumpHead) (front : Front) (bytes : List ℕ) → IsGoing head front → head.full ≡ true → LacksRecord head front.slots bytes → length front.slots < head.tracks
slot_less head front bytes going full lacks =
    let vtoc = subst (λ (b : Bool). IsVtocTrack b head.tracks head.vtoc) full going.is_front.header.vtoc in
    elim lacks [
      | inl (none, wrong) ↦ omega (arith, vtoc.0, vtoc.1, ap length none)
      | inr (at, wrong) ↦ omega (arith, vtoc.1, at)
    ]

-- the shape of a dump goes on with it
pub slot_going : (head : DumpHead) (front : Front) (offset why : ℕ) (whole : List ℕ) → (bad : IsBadSlot head front offset why whole) → IsGoing head front → IsGoing head (with_slot front bad.bytes)
slot_going head front offset why whole bad going = new_slot head front bad.bytes bad.full going (slot_less head front bad.bytes going bad.full bad.lacks) bad.cut

with_first : (all slots later first : List (List ℕ)) → all ≡ slots ++ later → later ≡ first → all ≡ slots ++ first
with_first all slots later first is same = is ∙ ap (λ (t : List (List ℕ)). slots ++ t) same

first_slot : (number : ℕ) (bytes : List ℕ) (later : List (List ℕ)) (more : List Piece) (from : ℕ) → Slot number bytes ∷ more ≡ slots_from from later
    → (tail : List (List ℕ)) × (later ≡ bytes ∷ tail)
first_slot number bytes [] more from e = absurd (let wrong : Slot number bytes ∷ more ≡ [] = e in cc)
first_slot number bytes (slot ∷ later) more from e = let same : slot ≡ bytes = cc in (later, ap (λ (s : List ℕ). s ∷ later) same)

-- it is in no front of a dump
slot_in_none : (head other : DumpHead) (front last : Front) (offset why : ℕ) (whole rest end : List ℕ) → IsBadSlot head front offset why whole → HasStood head front whole → HasStood other last whole
    → whole ≡ front_text head front ++ rest → header_text head ≡ header_text other → ¬ AreMore (front_pieces front) (front_pieces last) rest end
slot_in_none head other front last offset why whole rest end bad stood there e headers more =
    let n : ℕ = length front.slots in
    let sound = stood.going.is_front.header in
    let right = there.going.is_front.header in
    let same = alike head other sound right headers in
    let full : other.full ≡ true = sym same.full ∙ bad.full in
    let here : IsFull head front = full_by head.full head front bad.full stood.is_front.behind in
    let last_is : IsFull head last = full_alike head other same.device same.tracks (same_vtoc head other sound right headers) last (full_by other.full other last full there.is_front.behind) in
    let goes = slot_going head front offset why whole bad stood.going in
    let piece : Piece = Slot n bad.bytes in
    let bound : IsBounded piece = piece_bounded head front (with_slot front bad.bytes) piece (refl, refl) goes in
    let both = pieces_delimited.apart more.piece piece (pieces_text more.more ++ end) bad.rest more.bound bound
    (sym more.rest_is ∙ append_cancel_left (front_text head front) rest (piece_text piece ++ bad.rest) (sym e ∙ bad.spelled)) in
    let slots : slots_from 0 front.slots ++ (more.piece ∷ more.more) ≡ slots_from 0 last.slots =
    ap (λ (t : List Piece). t ++ (more.piece ∷ more.more)) (sym (pieces_of_slots front here.no_parts here.no_current)) ∙ sym more.all_are ∙ pieces_of_slots last last_is.no_parts last_is.no_current in
    let (later, all, behind) = slots_on_way 0 front.slots last.slots (more.piece ∷ more.more) slots in
    let (tail, first) = first_slot n bad.bytes later more.more (0 + length front.slots) (ap (λ (p : Piece). p ∷ more.more) (sym both.0) ∙ behind) in
    none_lacks head last front.slots tail bad.bytes last_is (with_first last.slots front.slots later (bad.bytes ∷ tail) all first) bad.lacks

pub same_slots : (front last : Front) → front_pieces front ≡ front_pieces last → front.parts ≡ [] → front.current ≡ None → last.parts ≡ [] → last.current ≡ None → length last.slots ≡ length front.slots
same_slots front last same parts current others other =
    let slots : slots_from 0 front.slots ++ [] ≡ slots_from 0 last.slots =
    append-nil (slots_from 0 front.slots) ∙ sym (pieces_of_slots front parts current) ∙ same ∙ pieces_of_slots last others other in
    let (later, all, behind) = slots_on_way 0 front.slots last.slots [] slots in
    omega (arith, ap length all, length-append front.slots later, none_later later (0 + length front.slots) behind)
  where
    none_later : (later : List (List ℕ)) (from : ℕ) → [] ≡ slots_from from later → length later ≡ 0
    none_later [] from e = refl
    none_later (slot ∷ later) from e = absurd (let wrong : [] ≡ Slot from slot ∷ slots_from (from + 1) later = e in cc)

-- behind each front of a dump that stands there too a piece stands whole
pub piece_behind : (head other : DumpHead) (front last : Front) (offset why : ℕ) (whole : List ℕ) → IsBadSlot head front offset why whole → IsFront head front → (there : HasStood other last whole)
    → HasPiece other last there.rest
piece_behind head other front last offset why whole bad is there =
    let stood = slot_stood head front offset why whole is bad in
    let fronts = two_fronts whole head other front last stood.rest there.rest stood.going there.going stood.spelled there.spelled in
    elim fronts.pieces [
      | inr (inr more) ↦ more_there other head last front there.rest stood.rest there.going stood.going (sym fronts.headers) more
      | inr (inl more) ↦ absurd (slot_in_none head other front last offset why whole stood.rest there.rest bad stood there stood.spelled fronts.headers more)
      | inl same ↦
          let sound = stood.going.is_front.header in
          let right = there.going.is_front.header in
          let heads = alike head other sound right fronts.headers in
          let full : other.full ≡ true = sym heads.full ∙ bad.full in
          let here = slots_by head.full head front bad.full stood.going.is_front.behind in
          let others = slots_by other.full other last full there.going.is_front.behind in
          let number : length last.slots ≡ length front.slots = same_slots front last same here.no_parts here.no_current others.no_parts others.no_current in
          let less = slot_less head front bad.bytes stood.going bad.full bad.lacks in
          let cut = subst (λ (d : Device). IsCutSlot d bad.bytes) heads.device bad.cut in
          record {
            piece = Slot (length front.slots) bad.bytes;
            next = with_slot last bad.bytes;
            behind = bad.rest;
            adds = (sym number, refl);
            going = new_slot other last bad.bytes full there.going (omega (arith, less, heads.tracks, number)) cut;
            rest_is = append_cancel_left (front_text other last) there.rest (piece_text (Slot (length front.slots) bad.bytes) ++ bad.rest)
                (sym there.spelled ∙ bad.spelled ∙ ap (λ (t : List ℕ). t ++ (piece_text (Slot (length front.slots) bad.bytes) ++ bad.rest)) (one_text head other front last fronts.headers same));
          }
    ]

-- so no trailer does
pub no_piece_ended : (head : DumpHead) (front : Front) (whole : List ℕ) (ended : HasEnded head front whole) → ¬ HasPiece head front ended.stood.rest
no_piece_ended head front whole ended has =
    no_trailer has.piece has.behind (piece_bounded head front has.next has.piece has.adds has.going) (subst (Begins (0x5A ∷ [])) has.rest_is ended.trailer)

-- nor is the front cut there
pub no_piece_cut : (head : DumpHead) (front : Front) (count : ℕ) (whole rest : List ℕ) → IsCutBehind head front count whole → whole ≡ front_text head front ++ rest → ¬ HasPiece head front rest
no_piece_cut head front count whole rest cut e has =
    cut.none has.piece has.next has.adds has.going (has.behind, append_cancel_left (front_text head front) cut.rest rest (sym cut.spelled ∙ e) ∙ has.rest_is)

-- two of them stand at one place
pub one_slot : (head other : DumpHead) (front last : Front) (offset why place reason : ℕ) (whole : List ℕ) → IsFront head front → IsFront other last → IsBadSlot head front offset why whole
    → IsBadSlot other last place reason whole → length (front_text head front) ≡ length (front_text other last)
one_slot head other front last offset why place reason whole is also bad wrong =
    let stood = slot_stood head front offset why whole is bad in
    let there = slot_stood other last place reason whole also wrong in
    let fronts = two_fronts whole head other front last stood.rest there.rest stood.going there.going stood.spelled there.spelled in
    elim fronts.pieces [
      | inl same ↦ ap length (one_text head other front last fronts.headers same)
      | inr (inl more) ↦ absurd (slot_in_none head other front last offset why whole stood.rest there.rest bad stood there stood.spelled fronts.headers more)
      | inr (inr more) ↦ absurd (slot_in_none other head last front place reason whole there.rest stood.rest wrong there stood there.spelled (sym fronts.headers) more)
    ]
