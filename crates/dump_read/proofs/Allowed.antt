-- Which marks may stand next.
use Rattle.std.proofs.Common.{◌≡◌, ◌⊎◌, ◌↔◌, inl, inr, ℕ, ◌+◌, ◌-◌, ◌≤◌, ◌<◌, Bool, true, false, nat_eq, nat_lt, List, [], ◌∷◌, ◌++◌, length, take, Option, Some, None, IsTrue, refl, sym, ap, subst, ◌∙◌, arith, length-append}
use Rattle.std.proofs.lemmas.Bool.{ltb-true, lt-ltb}
use Rattle.std.proofs.lemmas.List.{length-take}
use Rattle.std.proofs.lemmas.Option.{none-some}
use Rattle.ckd_image.specs.declared.track.Track.{Track as Text}
use Rattle.dump_fmt.specs.declared.piece.DumpHead.{DumpHead}
use Rattle.dump_fmt.specs.declared.piece.Piece.{Piece}
use Rattle.dump_fmt.specs.declared.piece.Piece.TheVariants.{Part, Track, PartEnd, Dropped, Slot}
use Rattle.dump_fmt.specs.Parts.{DumpPart, IsPart}
use Rattle.dump_fmt.specs.Front.{Front, Adds, all_parts, whole_tracks, largest_count, begun, with_text, with_current, with_part, with_slot}
use Rattle.dump_read.specs.declared.standing.UnderWay.{UnderWay}
use Rattle.dump_read.specs.declared.standing.Standing.{Standing}
use Rattle.dump_read.specs.Marks.{IsMarkOf, MayBegin, MayStand}
use Rattle.dump_read.specs.PartText.{IsNextName, IsBehind}
use Rattle.dump_read.specs.Shape.{IsGoing, MayEndPart, HasByteName}
use Rattle.dump_read.specs.Standing.{StandsAt, IsUnderWay, last_name}
use Rattle.dump_read.proofs.Counts.{all_none}
use Rattle.dump_read.proofs.Going.{not_full, logical, slots_by, last_is, ended}
use Rattle.dump_read.proofs.More.{empty_text, empty_stands, text_more, named_f1, part_more, slot_more}
use Rattle.dump_read.proofs.Ordered.{last_behind}
use Rattle.dump_read.proofs.StandingAt.{current_of, under_same}

-- ---- what a mark says of the piece

abbrev pub mark_of : Piece → ℕ
mark_of (Part f1 tracks kind) = 0x50
mark_of (Track text) = 0x01
mark_of PartEnd = 0x00
mark_of Dropped = 0xFF
mark_of (Slot number bytes) = 0x54

pub mark_is : (piece : Piece) (byte : ℕ) → IsMarkOf piece byte → mark_of piece ≡ byte
mark_is (Part f1 tracks kind) byte (rest, e) = let same : 0x50 ≡ byte = cc in same
mark_is (Track text) byte (rest, e) = let same : 0x01 ≡ byte = cc in same
mark_is PartEnd byte (rest, e) = let same : 0x00 ≡ byte = cc in same
mark_is Dropped byte (rest, e) = let same : 0xFF ≡ byte = cc in same
mark_is (Slot number bytes) byte (rest, e) = let same : 0x54 ≡ byte = cc in same

part_of : (front next : Front) (piece : Piece) → mark_of piece ≡ 0x50 → Adds front piece next → (f1 : List ℕ) × (tracks : ℕ) × (kind : ℕ) × Adds front (Part f1 tracks kind) next
part_of front next (Part f1 tracks kind) e adds = (f1, tracks, kind, adds)
part_of front next (Track text) e adds = absurd (omega (arith, e))
part_of front next PartEnd e adds = absurd (omega (arith, e))
part_of front next Dropped e adds = absurd (omega (arith, e))
part_of front next (Slot number bytes) e adds = absurd (omega (arith, e))

text_of : (front next : Front) (piece : Piece) → mark_of piece ≡ 0x01 → Adds front piece next → (text : Text) × Adds front (Track text) next
text_of front next (Part f1 tracks kind) e adds = absurd (omega (arith, e))
text_of front next (Track text) e adds = (text, adds)
text_of front next PartEnd e adds = absurd (omega (arith, e))
text_of front next Dropped e adds = absurd (omega (arith, e))
text_of front next (Slot number bytes) e adds = absurd (omega (arith, e))

pub end_of : (front next : Front) (piece : Piece) → mark_of piece ≡ 0x00 → Adds front piece next → Adds front PartEnd next
end_of front next (Part f1 tracks kind) e adds = absurd (omega (arith, e))
end_of front next (Track text) e adds = absurd (omega (arith, e))
end_of front next PartEnd e adds = adds
end_of front next Dropped e adds = absurd (omega (arith, e))
end_of front next (Slot number bytes) e adds = absurd (omega (arith, e))

pub dropped_of : (front next : Front) (piece : Piece) → mark_of piece ≡ 0xFF → Adds front piece next → Adds front Dropped next
dropped_of front next (Part f1 tracks kind) e adds = absurd (omega (arith, e))
dropped_of front next (Track text) e adds = absurd (omega (arith, e))
dropped_of front next PartEnd e adds = absurd (omega (arith, e))
dropped_of front next Dropped e adds = adds
dropped_of front next (Slot number bytes) e adds = absurd (omega (arith, e))

slot_of : (front next : Front) (piece : Piece) → mark_of piece ≡ 0x54 → Adds front piece next → (number : ℕ) × (bytes : List ℕ) × Adds front (Slot number bytes) next
slot_of front next (Part f1 tracks kind) e adds = absurd (omega (arith, e))
slot_of front next (Track text) e adds = absurd (omega (arith, e))
slot_of front next PartEnd e adds = absurd (omega (arith, e))
slot_of front next Dropped e adds = absurd (omega (arith, e))
slot_of front next (Slot number bytes) e adds = (number, bytes, adds)

-- only the trailer begins as it does
no_piece : (piece : Piece) → ¬ (mark_of piece ≡ 0x5A)
no_piece (Part f1 tracks kind) e = absurd (omega (arith, e))
no_piece (Track text) e = absurd (omega (arith, e))
no_piece PartEnd e = absurd (omega (arith, e))
no_piece Dropped e = absurd (omega (arith, e))
no_piece (Slot number bytes) e = absurd (omega (arith, e))

pub begin_of : (head : DumpHead) (front : Front) (byte : ℕ) → ¬ (byte ≡ 0x5A) → MayStand head front byte → MayBegin head front byte
begin_of head front byte not (inl may) = may
begin_of head front byte not (inr (is, closes)) = absurd (not is)

-- ---- tracks

-- what the part under way lacks, so that a track more may stand there
abbrev pub LacksTrack : Front → DumpPart → Type 0
LacksTrack front part = (length part.texts < part.tracks) × ((length part.texts + 1 < part.tracks) ⊎ (whole_tracks front + part.tracks ≤ largest_count))

track_may : (head : DumpHead) (front : Front) (part : DumpPart) → IsGoing head front → front.current ≡ Some part → LacksTrack front part → MayStand head front 0x01
track_may head front part going at lacks = inl (record {
  piece = Track empty_text;
  next = with_current front (Some (with_text part empty_text));
  adds = (part, at, refl);
  going = text_more head front part empty_text at going (empty_stands head.device) lacks.0 lacks.1;
  mark = (_, refl);
})

lacks_track : (head : DumpHead) (front : Front) (part : DumpPart) (text : Text) → IsGoing head (with_current front (Some (with_text part text))) → LacksTrack front part
lacks_track head front part text going =
    let next : Front = with_current front (Some (with_text part text)) in
    let one : IsPart head.device (with_text part text) = last_is (IsPart head.device) front.parts (with_text part text) (logical head next (with_text part text) going.is_front refl).parts in
    let long : length (part.texts ++ text ∷ []) ≡ length part.texts + 1 = length-append part.texts (text ∷ []) in
    let may : MayEndPart next (with_text part text) = going.current in (
      omega (arith, one.within, long),
      elim may [
        | inl less ↦ inl (omega (arith, less, long))
        | inr fits ↦ inr fits
      ],
    )

pub track_must : (head : DumpHead) (front : Front) → MayStand head front 0x01 → (part : DumpPart) × (front.current ≡ Some part) × LacksTrack front part
track_must head front may =
    let b = begin_of head front 0x01 (λ e. absurd (omega (arith, e))) may in
    let (text, adds) = text_of front b.next b.piece (mark_is b.piece 0x01 b.mark) b.adds in
    (adds.0, adds.1, lacks_track head front adds.0 text (subst (IsGoing head) adds.2 b.going))

-- by what a reader keeps
abbrev pub LacksRead : Standing → UnderWay → Type 0
LacksRead standing u = (u.read < u.due) × ((1 < u.due - u.read) ⊎ (u.due ≤ 4294967295 - standing.tracks))

pub track_stands : (head : DumpHead) (front : Front) (standing : Standing) (u : UnderWay) → IsGoing head front → StandsAt head front standing → standing.under_way ≡ Some u → LacksRead standing u → MayStand head front 0x01
track_stands head front standing u going stands there lacks =
    let here = current_of front.current standing.under_way u stands.under_way there in
    let due : u.due ≡ here.0.tracks = ap (λ (v : UnderWay). v.due) here.2 in
    let read : u.read ≡ length here.0.texts = ap (λ (v : UnderWay). v.read) here.2 in
    track_may head front here.0 going here.1 (
      omega (arith, lacks.0, due, read),
      elim lacks.1 [
        | inl more ↦ inl (omega (arith, more, due, read))
        | inr fits ↦ inr (omega (arith, fits, due, stands.tracks, going.is_front.few_tracks))
      ],
    )

pub track_lacks : (head : DumpHead) (front : Front) (standing : Standing) (u : UnderWay) → StandsAt head front standing → standing.under_way ≡ Some u → MayStand head front 0x01 → LacksRead standing u
track_lacks head front standing u stands there may =
    let must = track_must head front may in
    let same = under_same front must.0 standing.under_way u must.1 stands.under_way there in
    let due : u.due ≡ must.0.tracks = ap (λ (v : UnderWay). v.due) same in
    let read : u.read ≡ length must.0.texts = ap (λ (v : UnderWay). v.read) same in (
      omega (arith, must.2.0, due, read),
      elim must.2.1 [
        | inl more ↦ inl (omega (arith, more, due, read))
        | inr fits ↦ inr (omega (arith, fits, due, stands.tracks))
      ],
    )

-- where one track is lacking, its part has to fit
pub last_track_fits : (head : DumpHead) (front : Front) (standing : Standing) (u : UnderWay) → StandsAt head front standing → standing.under_way ≡ Some u → ¬ (1 < u.due - u.read) → MayStand head front 0x01
    → u.due ≤ 4294967295 - standing.tracks
last_track_fits head front standing u stands there none may = elim ((track_lacks head front standing u stands there may).1) [
  | inl more ↦ absurd (none more)
  | inr fits ↦ fits
]

-- ---- ends of parts

pub end_stands : (head : DumpHead) (front : Front) (standing : Standing) (u : UnderWay) → IsGoing head front → StandsAt head front standing → standing.under_way ≡ Some u
    → IsTrue (nat_eq u.read u.due) ↔ MayStand head front 0x00
end_stands head front standing u going stands there =
    let here = current_of front.current standing.under_way u stands.under_way there in (
      λ all. inl (record {
        piece = PartEnd;
        next = with_part front here.0;
        adds = (here.0, here.1, subst (λ (v : UnderWay). IsTrue (nat_eq v.read v.due)) here.2 all, refl);
        going = ended head front here.0 here.1 going;
        mark = ([], refl);
      }),
      λ may.
          let b = begin_of head front 0x00 (λ e. absurd (omega (arith, e))) may in
          let adds = end_of front b.next b.piece (mark_is b.piece 0x00 b.mark) b.adds in
          let same = under_same front adds.0 standing.under_way u adds.1 stands.under_way there in
          subst (λ (v : UnderWay). IsTrue (nat_eq v.read v.due)) (sym same) adds.2,
    )

pub dropped_stands : (head : DumpHead) (front : Front) (standing : Standing) (u : UnderWay) → IsGoing head front → StandsAt head front standing → standing.under_way ≡ Some u
    → IsTrue (nat_lt u.read u.due) ↔ MayStand head front 0xFF
dropped_stands head front standing u going stands there =
    let here = current_of front.current standing.under_way u stands.under_way there in (
      λ less. inl (record {
        piece = Dropped;
        next = with_part front here.0;
        adds = (here.0, here.1, ltb-true (length here.0.texts) here.0.tracks (subst (λ (v : UnderWay). IsTrue (nat_lt v.read v.due)) here.2 less), refl);
        going = ended head front here.0 here.1 going;
        mark = ([], refl);
      }),
      λ may.
          let b = begin_of head front 0xFF (λ e. absurd (omega (arith, e))) may in
          let adds = dropped_of front b.next b.piece (mark_is b.piece 0xFF b.mark) b.adds in
          let same = under_same front adds.0 standing.under_way u adds.1 stands.under_way there in
          subst (λ (v : UnderWay). IsTrue (nat_lt v.read v.due)) (sym same) (lt-ltb (length adds.0.texts) adds.0.tracks adds.2),
    )

-- ---- slots

slot_must : (head : DumpHead) (front : Front) → head.full ≡ true → MayStand head front 0x54 → length front.slots < head.tracks
slot_must head front full may =
    let b = begin_of head front 0x54 (λ e. absurd (omega (arith, e))) may in
    let (number, bytes, adds) = slot_of front b.next b.piece (mark_is b.piece 0x54 b.mark) b.adds in
    let goes : IsGoing head (with_slot front bytes) = subst (IsGoing head) adds.1 b.going in
    let here = slots_by head.full head (with_slot front bytes) full goes.is_front.behind in
    omega (arith, here.few, length-append front.slots (bytes ∷ []))

pub slot_stands : (head : DumpHead) (front : Front) (standing : Standing) → IsGoing head front → StandsAt head front standing → head.full ≡ true → IsTrue (nat_lt standing.slots head.tracks) ↔ MayStand head front 0x54
slot_stands head front standing going stands full = (
  λ less. inl (record {
    piece = Slot (length front.slots) [];
    next = with_slot front [];
    adds = (refl, refl);
    going = slot_more head front full going (omega (arith, ltb-true standing.slots head.tracks less, stands.slots));
    mark = (_, refl);
  }),
  λ may. lt-ltb standing.slots head.tracks (omega (arith, slot_must head front full may, stands.slots)),
)

-- ---- parts

-- what a part needs before it, by what a reader keeps
abbrev pub HasPartRoom : DumpHead → Standing → Type 0
HasPartRoom head standing = (head.full ≡ false) × (standing.under_way ≡ None) × (standing.begun < 4294967295) × ((name : List ℕ) × IsNextName standing.name name)

pub none_of : (current : Option DumpPart) (under : Option UnderWay) → IsUnderWay current under → under ≡ None → current ≡ None
none_of None under is none = refl
none_of (Some part) under is none = absurd (none-some (record { due = part.tracks; read = length part.texts }) (sym none ∙ is))

under_none : (current : Option DumpPart) (under : Option UnderWay) → current ≡ None → IsUnderWay current under → under ≡ None
under_none current under at is = subst (λ (o : Option DumpPart). IsUnderWay o under) at is

part_may : (head : DumpHead) (front : Front) (standing : Standing) → IsGoing head front → StandsAt head front standing → HasPartRoom head standing → MayStand head front 0x50
part_may head front standing going stands (not, none, few, (name, next)) =
    let at : front.current ≡ None = none_of front.current standing.under_way stands.under_way none in
    let all : all_parts front ≡ front.parts = all_none front at in
    let named : IsNextName (last_name front.parts) name = subst (λ (o : Option (List ℕ)). IsNextName o name) (stands.name ∙ ap last_name all) next in
    inl (record {
      piece = Part (named_f1 name) 0 0x01;
      next = with_current front (Some (begun (named_f1 name) 0 0x01));
      adds = (at, refl);
      going = part_more head front name at not going (omega (arith, few, stands.begun, ap length all)) named;
      mark = (_, refl);
    })

pub part_must : (head : DumpHead) (front : Front) (standing : Standing) → StandsAt head front standing → MayStand head front 0x50 → HasPartRoom head standing
part_must head front standing stands may =
    let b = begin_of head front 0x50 (λ e. absurd (omega (arith, e))) may in
    let (f1, tracks, kind, adds) = part_of front b.next b.piece (mark_is b.piece 0x50 b.mark) b.adds in
    let part : DumpPart = begun f1 tracks kind in
    let next : Front = with_current front (Some part) in
    let at : front.current ≡ None = adds.0 in
    let goes : IsGoing head next = subst (IsGoing head) adds.1 b.going in
    let here = logical head next part goes.is_front refl in
    let one : IsPart head.device part = last_is (IsPart head.device) front.parts part here.parts in
    let all : all_parts front ≡ front.parts = all_none front at in
    let name : standing.name ≡ last_name front.parts = stands.name ∙ ap last_name all in (
      not_full head.full head next part refl goes.is_front.behind,
      under_none front.current standing.under_way at stands.under_way,
      omega (arith, stands.begun, ap length all, here.few, length-append front.parts (part ∷ [])),
      (
        take 44 f1,
        record {
          long = omega (arith, length-take 44 f1, one.placeless.long);
          bytes = last_is HasByteName front.parts part goes.is_front.names;
          order = subst (λ (o : Option (List ℕ)). IsBehind o (take 44 f1)) (sym name) (last_behind front.parts part here.order);
        },
      ),
    )

pub part_stands : (head : DumpHead) (front : Front) (standing : Standing) (b : Bool) → IsGoing head front → StandsAt head front standing → IsTrue b ↔ HasPartRoom head standing → IsTrue b ↔ MayStand head front 0x50
part_stands head front standing b going stands room = (λ is. part_may head front standing going stands (room.0 is), λ may. room.1 (part_must head front standing stands may))
