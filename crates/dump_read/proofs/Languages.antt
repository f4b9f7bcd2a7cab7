-- What may stand behind each mark of a dump.
use Rattle.std.proofs.Common.{◌≡◌, ◌⊎◌, inl, inr, ℕ, ◌+◌, ◌-◌, ◌^◌, ◌≤◌, ◌<◌, Bool, true, false, List, [], ◌∷◌, ◌++◌, length, take, All, Option, Some, None, IfSome, refl, sym, ap, subst, ◌∙◌, arith, length-append, append_assoc}
use Rattle.std.specs.List.{AllPairs}
use Rattle.std.proofs.lemmas.Bool.{cases_lt}
use Rattle.std.proofs.lemmas.List.{append-nil, length-take}
use Rattle.std.proofs.lemmas.List.Elements.{All-nil, All-push}
use Rattle.std.proofs.lemmas.List.Quantifiers.{all_pairs_push}
use Rattle.byteorder.specs.Endian.{big_bytes}
use Rattle.ckd_image.specs.declared.device.Device.{Device}
use Rattle.ckd_image.specs.declared.track.Track.{Track as Text}
use Rattle.ckd_image.specs.Bytes.{Begins}
use Rattle.ckd_image.specs.Device.{slot_of}
use Rattle.dump_fmt.specs.declared.piece.DumpHead.{DumpHead}
use Rattle.dump_fmt.specs.declared.piece.Piece.{Piece}
use Rattle.dump_fmt.specs.declared.piece.Piece.TheVariants.{Part, Track, PartEnd, Dropped, Slot}
use Rattle.dump_fmt.specs.Parts.{DumpPart, IsPlaceless, IsPart, StandsOn}
use Rattle.dump_fmt.specs.Pieces.{dumped_track, piece_text}
use Rattle.dump_fmt.specs.Front.{Front, Adds, all_parts, whole_parts, whole_tracks, largest_count, IsCutSlot, begun, with_text, with_current, with_slot}
use Rattle.dump_fmt.specs.Text.{front_text, counts_text}
use Rattle.dump_fmt.proofs.Fronts.{push_not_empty}
use Rattle.dump_read.specs.declared.mark.Mark.TheVariants as marks
use Rattle.dump_read.specs.declared.standing.Standing.{Standing}
use Rattle.dump_read.specs.declared.standing.UnderWay.{UnderWay}
use Rattle.dump_read.specs.Ending.{both_counts, IsEnd}
use Rattle.dump_read.specs.Fields.{GoesOn}
use Rattle.dump_read.specs.Marks.{byte_of, IsMarkOf, MayBegin}
use Rattle.dump_read.specs.PartText.{IsNextName, IsBehind, IsKind, IsPartText}
use Rattle.dump_read.specs.Shape.{IsOfShape, IsGoing, MayEndPart, HasByteName, MayClose, IsShape, IsSomeShape, GoesWithEnd}
use Rattle.dump_read.specs.SlotText.{slot_text, IsSlotText}
use Rattle.dump_read.specs.Standing.{StandsAt, last_name}
use Rattle.dump_read.specs.TrackText.{IsTrackBytes}
use Rattle.dump_read.proofs.Allowed.{track_lacks}
use Rattle.dump_read.proofs.Counts.{tracks_in, all_none}
use Rattle.dump_read.proofs.Delimited.{pieces_delimited}
use Rattle.dump_read.proofs.Going.{not_full, logical, logical_by, of_logical, slots_by, of_slots, last_is}
use Rattle.dump_read.proofs.Lifted.{IsLanguage}
use Rattle.dump_read.proofs.More.{text_more}
use Rattle.dump_read.proofs.Numbers.{one_number}
use Rattle.dump_read.proofs.OnWay.{Precedes}
use Rattle.dump_read.proofs.Ordered.{behind_each, last_behind}
use Rattle.dump_read.proofs.Shapes.{fronts_go_on, pieces_stand_behind, shapes_go_on}
use Rattle.dump_read.proofs.StandingAt.{under_of}
use Rattle.dump_read.proofs.TrackTop.{slot_bounds}
use Rattle.dump_read.proofs.Words.{whole_front}
use Rattle.ckd_image.proofs.OneText.{split_same}
use Rattle.dump_fmt.proofs.Sizes.{few_records}

-- ---- what a mark says of the piece

abbrev PartOf : Front → Front → List ℕ → Type 0
PartOf front next rest = (f1 : List ℕ) × (tracks : ℕ) × (kind : ℕ) × Adds front (Part f1 tracks kind) next × Begins (f1 ++ (big_bytes 4 tracks ++ (kind ∷ []))) rest

abbrev TrackOf : Front → Front → List ℕ → Type 0
TrackOf front next rest = (text : Text) × Adds front (Track text) next × Begins (dumped_track text) rest

abbrev SlotOf : Front → Front → List ℕ → Type 0
SlotOf front next rest = (number : ℕ) × (bytes : List ℕ) × Adds front (Slot number bytes) next × Begins (slot_text number bytes) rest

part_of : (front next : Front) (piece : Piece) (rest : List ℕ) → Adds front piece next → Begins (piece_text piece) (0x50 ∷ rest) → PartOf front next rest
part_of front next (Part f1 tracks kind) rest adds (more, e) =
    let tail : rest ≡ (f1 ++ (big_bytes 4 tracks ++ (kind ∷ []))) ++ more = cc in
    (f1, tracks, kind, adds, (more, tail))
part_of front next (Track text) rest adds (more, e) = let wrong : ◌≡◌ {A = ℕ} 0x50 0x01 = cc in absurd (omega (arith, wrong))
part_of front next PartEnd rest adds (more, e) = let wrong : ◌≡◌ {A = ℕ} 0x50 0x00 = cc in absurd (omega (arith, wrong))
part_of front next Dropped rest adds (more, e) = let wrong : ◌≡◌ {A = ℕ} 0x50 0xFF = cc in absurd (omega (arith, wrong))
part_of front next (Slot number bytes) rest adds (more, e) = let wrong : ◌≡◌ {A = ℕ} 0x50 0x54 = cc in absurd (omega (arith, wrong))

track_of : (front next : Front) (piece : Piece) (rest : List ℕ) → Adds front piece next → Begins (piece_text piece) (0x01 ∷ rest) → TrackOf front next rest
track_of front next (Part f1 tracks kind) rest adds (more, e) = let wrong : ◌≡◌ {A = ℕ} 0x01 0x50 = cc in absurd (omega (arith, wrong))
track_of front next (Track text) rest adds (more, e) = let tail : rest ≡ dumped_track text ++ more = cc in (text, adds, (more, tail))
track_of front next PartEnd rest adds (more, e) = let wrong : ◌≡◌ {A = ℕ} 0x01 0x00 = cc in absurd (omega (arith, wrong))
track_of front next Dropped rest adds (more, e) = let wrong : ◌≡◌ {A = ℕ} 0x01 0xFF = cc in absurd (omega (arith, wrong))
track_of front next (Slot number bytes) rest adds (more, e) = let wrong : ◌≡◌ {A = ℕ} 0x01 0x54 = cc in absurd (omega (arith, wrong))

slot_in : (front next : Front) (piece : Piece) (rest : List ℕ) → Adds front piece next → Begins (piece_text piece) (0x54 ∷ rest) → SlotOf front next rest
slot_in front next (Part f1 tracks kind) rest adds (more, e) = let wrong : ◌≡◌ {A = ℕ} 0x54 0x50 = cc in absurd (omega (arith, wrong))
slot_in front next (Track text) rest adds (more, e) = let wrong : ◌≡◌ {A = ℕ} 0x54 0x01 = cc in absurd (omega (arith, wrong))
slot_in front next PartEnd rest adds (more, e) = let wrong : ◌≡◌ {A = ℕ} 0x54 0x00 = cc in absurd (omega (arith, wrong))
slot_in front next Dropped rest adds (more, e) = let wrong : ◌≡◌ {A = ℕ} 0x54 0xFF = cc in absurd (omega (arith, wrong))
slot_in front next (Slot number bytes) rest adds (more, e) = let tail : rest ≡ slot_text number bytes ++ more = cc in (number, bytes, adds, (more, tail))

-- and the whole of its text
pub part_is : (piece : Piece) (rest : List ℕ) → piece_text piece ≡ 0x50 ∷ rest
    → (f1 : List ℕ) × (tracks : ℕ) × (kind : ℕ) × (piece ≡ Part f1 tracks kind) × (rest ≡ f1 ++ (big_bytes 4 tracks ++ (kind ∷ [])))
part_is (Part f1 tracks kind) rest e = let tail : rest ≡ f1 ++ (big_bytes 4 tracks ++ (kind ∷ [])) = cc in (f1, tracks, kind, refl, tail)
part_is (Track text) rest e = let wrong : ◌≡◌ {A = ℕ} 0x50 0x01 = cc in absurd (omega (arith, wrong))
part_is PartEnd rest e = let wrong : ◌≡◌ {A = ℕ} 0x50 0x00 = cc in absurd (omega (arith, wrong))
part_is Dropped rest e = let wrong : ◌≡◌ {A = ℕ} 0x50 0xFF = cc in absurd (omega (arith, wrong))
part_is (Slot number bytes) rest e = let wrong : ◌≡◌ {A = ℕ} 0x50 0x54 = cc in absurd (omega (arith, wrong))

pub track_is : (piece : Piece) (rest : List ℕ) → piece_text piece ≡ 0x01 ∷ rest → (text : Text) × (piece ≡ Track text) × (rest ≡ dumped_track text)
track_is (Part f1 tracks kind) rest e = let wrong : ◌≡◌ {A = ℕ} 0x01 0x50 = cc in absurd (omega (arith, wrong))
track_is (Track text) rest e = let tail : rest ≡ dumped_track text = cc in (text, refl, tail)
track_is PartEnd rest e = let wrong : ◌≡◌ {A = ℕ} 0x01 0x00 = cc in absurd (omega (arith, wrong))
track_is Dropped rest e = let wrong : ◌≡◌ {A = ℕ} 0x01 0xFF = cc in absurd (omega (arith, wrong))
track_is (Slot number bytes) rest e = let wrong : ◌≡◌ {A = ℕ} 0x01 0x54 = cc in absurd (omega (arith, wrong))

pub slot_is : (piece : Piece) (rest : List ℕ) → piece_text piece ≡ 0x54 ∷ rest → (number : ℕ) × (bytes : List ℕ) × (piece ≡ Slot number bytes) × (rest ≡ slot_text number bytes)
slot_is (Part f1 tracks kind) rest e = let wrong : ◌≡◌ {A = ℕ} 0x54 0x50 = cc in absurd (omega (arith, wrong))
slot_is (Track text) rest e = let wrong : ◌≡◌ {A = ℕ} 0x54 0x01 = cc in absurd (omega (arith, wrong))
slot_is PartEnd rest e = let wrong : ◌≡◌ {A = ℕ} 0x54 0x00 = cc in absurd (omega (arith, wrong))
slot_is Dropped rest e = let wrong : ◌≡◌ {A = ℕ} 0x54 0xFF = cc in absurd (omega (arith, wrong))
slot_is (Slot number bytes) rest e = let tail : rest ≡ slot_text number bytes = cc in (number, bytes, refl, tail)

pub no_trailer : (piece : Piece) (rest : List ℕ) → ¬ Begins (piece_text piece) (0x5A ∷ rest)
no_trailer (Part f1 tracks kind) rest (more, e) = let wrong : ◌≡◌ {A = ℕ} 0x5A 0x50 = cc in absurd (omega (arith, wrong))
no_trailer (Track text) rest (more, e) = let wrong : ◌≡◌ {A = ℕ} 0x5A 0x01 = cc in absurd (omega (arith, wrong))
no_trailer PartEnd rest (more, e) = let wrong : ◌≡◌ {A = ℕ} 0x5A 0x00 = cc in absurd (omega (arith, wrong))
no_trailer Dropped rest (more, e) = let wrong : ◌≡◌ {A = ℕ} 0x5A 0xFF = cc in absurd (omega (arith, wrong))
no_trailer (Slot number bytes) rest (more, e) = let wrong : ◌≡◌ {A = ℕ} 0x5A 0x54 = cc in absurd (omega (arith, wrong))

-- the trailer begins as no piece does
trailer_mark : (head : DumpHead) (front : Front) (byte : ℕ) (rest : List ℕ) → GoesWithEnd head front (byte ∷ rest) → byte ≡ 0x5A
trailer_mark head front byte rest ends = let e = ends.rest_is in let same : byte ≡ 0x5A = cc in same

whole_piece : (piece : Piece) (byte : ℕ) (mark : IsMarkOf piece byte) → Begins (piece_text piece) (byte ∷ mark.0)
whole_piece piece byte (rest, e) = ([], sym e ∙ sym (append-nil (piece_text piece)))

-- what is going with a piece more goes on as a shape
piece_goes : (head : DumpHead) (front next : Front) (piece : Piece) (text : List ℕ) → IsGoing head next → Adds front piece next → piece_text piece ≡ text → GoesOn IsSomeShape (front_text head front ++ text)
piece_goes head front next piece text going adds is =
    subst (GoesOn IsSomeShape) (pieces_stand_behind head front next piece going.is_front adds ∙ ap (λ (t : List ℕ). front_text head front ++ t) is) (fronts_go_on head next going)

-- of texts of one length none begins another one
same_length : (a b : List ℕ) → length a ≡ length b → Begins a b → a ≡ b
same_length a b same (more, e) = sym (whole_front a b more e (omega (arith, same)))

-- ---- parts

new_part : (head : DumpHead) (front : Front) (f1 : List ℕ) (tracks kind : ℕ) → front.current ≡ None → head.full ≡ false → IsGoing head front → length front.parts < largest_count
    → IsNextName (last_name front.parts) (take 44 f1) → IsPlaceless f1 → tracks ≤ 65535 → IsKind kind → IsGoing head (with_current front (Some (begun f1 tracks kind)))
new_part head front f1 tracks kind at not going few name placeless less right =
    let is = going.is_front in
    let here = logical_by head.full head front not is.behind in
    let part : DumpPart = begun f1 tracks kind in
    let all : all_parts front ≡ front.parts = all_none front at in
    let order : AllPairs Precedes front.parts = subst (AllPairs Precedes) all here.order in
    let one : IsPart head.device part = record { placeless = placeless; few = less; kind = right; texts = All-nil (StandsOn head.device); within = omega arith } in
    let may : MayEndPart (with_current front (Some part)) part = elim (cases_lt 0 tracks) [
      | inl some ↦ inl (omega (arith, some))
      | inr none ↦ inr (omega (arith, none, is.few_tracks))
    ] in
    record {
      is_front = record {
        header = is.header;
        behind = of_logical head.full head (with_current front (Some part)) not (record {
          no_slots = here.no_slots;
          parts = All-push (IsPart head.device) front.parts part (subst (All (IsPart head.device)) all here.parts) one;
          order = all_pairs_push Precedes front.parts part order (behind_each front.parts (take 44 f1) order name.order);
          few = omega (arith, few, length-append front.parts (part ∷ []));
        });
        few_tracks = is.few_tracks;
        names = All-push HasByteName front.parts part (subst (All HasByteName) all is.names) name.bytes;
      };
      current = may;
    }

-- what a part that is going says of what stood before it
record PartSaid (head : DumpHead) (front : Front) (standing : Standing) (f1 : List ℕ) (tracks kind : ℕ) : Type 0 where
  pub none : front.current ≡ None
  pub not_full : head.full ≡ false
  pub few : length front.parts < largest_count
  pub last : standing.name ≡ last_name front.parts
  pub name : IsNextName standing.name (take 44 f1)
  pub is_part : IsPart head.device (begun f1 tracks kind)

part_said : (head : DumpHead) (front next : Front) (standing : Standing) (f1 : List ℕ) (tracks kind : ℕ) → StandsAt head front standing → Adds front (Part f1 tracks kind) next → IsGoing head next
    → PartSaid head front standing f1 tracks kind
part_said head front next standing f1 tracks kind stands adds going =
    let part : DumpPart = begun f1 tracks kind in
    let new : Front = with_current front (Some part) in
    let goes : IsGoing head new = subst (IsGoing head) adds.1 going in
    let here = logical head new part goes.is_front refl in
    let one : IsPart head.device part = last_is (IsPart head.device) front.parts part here.parts in
    let last : standing.name ≡ last_name front.parts = stands.name ∙ ap last_name (all_none front adds.0) in
    record {
      none = adds.0;
      not_full = not_full head.full head new part refl goes.is_front.behind;
      few = omega (arith, here.few, length-append front.parts (part ∷ []));
      last = last;
      name = record {
        long = omega (arith, length-take 44 f1, one.placeless.long);
        bytes = last_is HasByteName front.parts part goes.is_front.names;
        order = subst (λ (o : Option (List ℕ)). IsBehind o (take 44 f1)) (sym last) (last_behind front.parts part here.order);
      };
      is_part = one;
    }

part_on : (head : DumpHead) (front : Front) (standing : Standing) (f1 : List ℕ) (tracks kind : ℕ) → IsGoing head front → StandsAt head front standing → MayBegin head front (byte_of marks.Part)
    → IsNextName standing.name (take 44 f1) → IsPlaceless f1 → tracks ≤ 65535 → IsKind kind → Adds front (Part f1 tracks kind) (with_current front (Some (begun f1 tracks kind))) × IsGoing head (with_current front (Some (begun f1 tracks kind)))
part_on head front standing f1 tracks kind going stands may name placeless few right =
    let (f2, tracks2, kind2, adds, begins) = part_of front may.next may.piece may.mark.0 may.adds (whole_piece may.piece 0x50 may.mark) in
    let said = part_said head front may.next standing f2 tracks2 kind2 stands adds may.going in (
      (said.none, refl),
      new_part head front f1 tracks kind said.none said.not_full going said.few (subst (λ (o : Option (List ℕ)). IsNextName o (take 44 f1)) said.last name) placeless few right,
    )

pub part_long : (before : Option (List ℕ)) (text : List ℕ) → IsPartText before text → length text ≡ 145
part_long before text is = omega (arith, ap length is.spelled, length-append is.f1 (big_bytes 4 is.tracks ++ (is.kind ∷ [])), is.placeless.long)

-- a part that was read begins
pub part_adds : (head : DumpHead) (front : Front) (standing : Standing) (f1 : List ℕ) (tracks kind : ℕ) → IsGoing head front → StandsAt head front standing → MayBegin head front (byte_of marks.Part)
    → IsPartText standing.name (f1 ++ (big_bytes 4 tracks ++ (kind ∷ []))) → length f1 ≡ 140 → tracks < 2 ^ 32 → IsGoing head (with_current front (Some (begun f1 tracks kind)))
part_adds head front standing f1 tracks kind going stands may is long small =
    let first = split_same f1 is.f1 (big_bytes 4 tracks ++ (kind ∷ [])) (big_bytes 4 is.tracks ++ (is.kind ∷ [])) (long ∙ sym is.placeless.long) is.spelled in
    let second = split_same (big_bytes 4 tracks) (big_bytes 4 is.tracks) (kind ∷ []) (is.kind ∷ []) refl first.1 in
    let number : tracks ≡ is.tracks = one_number tracks is.tracks small (omega (arith, is.few)) second.0 in
    let last : kind ∷ [] ≡ is.kind ∷ [] = second.1 in
    let same : kind ≡ is.kind = cc in
    (part_on head front standing f1 tracks kind going stands may (subst (λ (f : List ℕ). IsNextName standing.name (take 44 f)) (sym first.0) is.name) (subst IsPlaceless (sym first.0) is.placeless)
    (omega (arith, is.few, number)) (subst IsKind (sym same) is.kind_is)).1

part_goes : (head : DumpHead) (front : Front) (standing : Standing) → IsGoing head front → StandsAt head front standing → MayBegin head front (byte_of marks.Part)
    → (text : List ℕ) → IsPartText standing.name text → GoesOn IsSomeShape (front_text head front ++ (0x50 ∷ text))
part_goes head front standing going stands may text is =
    let on = part_on head front standing is.f1 is.tracks is.kind going stands may is.name is.placeless is.few is.kind_is in
    piece_goes head front (with_current front (Some (begun is.f1 is.tracks is.kind))) (Part is.f1 is.tracks is.kind) (0x50 ∷ text) on.1 on.0 (ap (λ (t : List ℕ). 0x50 ∷ t) (sym is.spelled))

part_piece : (head : DumpHead) (front next : Front) (standing : Standing) (f1 : List ℕ) (tracks kind : ℕ) → StandsAt head front standing → Adds front (Part f1 tracks kind) next → IsGoing head next
    → IsPartText standing.name (f1 ++ (big_bytes 4 tracks ++ (kind ∷ [])))
part_piece head front next standing f1 tracks kind stands adds going =
    let said = part_said head front next standing f1 tracks kind stands adds going in
    record { f1 = f1; tracks = tracks; kind = kind; name = said.name; placeless = said.is_part.placeless; few = said.is_part.few; kind_is = said.is_part.kind; spelled = refl }

part_comes : (head : DumpHead) (front : Front) (standing : Standing) → IsGoing head front → StandsAt head front standing
    → (shape rest : List ℕ) → IsSomeShape shape → shape ≡ front_text head front ++ (0x50 ∷ rest) → (text : List ℕ) × IsPartText standing.name text × Begins text rest
part_comes head front standing going stands shape rest some e = elim (shapes_go_on head front shape (0x50 ∷ rest) going some e) [
  | inr ends ↦ absurd (omega (arith, trailer_mark head front 0x50 rest ends))
  | inl goes ↦
      let (f1, tracks, kind, adds, begins) = part_of front goes.next goes.piece rest goes.adds goes.begins in
      (f1 ++ (big_bytes 4 tracks ++ (kind ∷ [])), part_piece head front goes.next standing f1 tracks kind stands adds goes.going, begins)
]

pub part_language : (head : DumpHead) (front : Front) (standing : Standing) → IsGoing head front → StandsAt head front standing → MayBegin head front (byte_of marks.Part)
    → IsLanguage head front (byte_of marks.Part) (IsPartText standing.name)
part_language head front standing going stands may = record {
  goes = part_goes head front standing going stands may;
  comes = part_comes head front standing going stands;
  pieces = λ piece next rest adds goes e.
      let (f1, tracks, kind, same, tail) = part_is piece rest e in
      subst (IsPartText standing.name) (sym tail) (part_piece head front next standing f1 tracks kind stands (subst (λ (p : Piece). Adds front p next) same adds) goes);
  apart = λ a b is also begins. same_length a b (part_long standing.name a is ∙ sym (part_long standing.name b also)) begins;
}

-- ---- tracks

-- a track that was read stands there
pub track_adds : (head : DumpHead) (front : Front) (standing : Standing) (part : DumpPart) (text : Text) → IsGoing head front → StandsAt head front standing → MayBegin head front (byte_of marks.Track)
    → front.current ≡ Some part → StandsOn head.device text → IsGoing head (with_current front (Some (with_text part text)))
track_adds head front standing part text going stands may at on =
    let u : UnderWay = record { due = part.tracks; read = length part.texts } in
    let lacks = track_lacks head front standing u stands (under_of front.current part standing.under_way at stands.under_way) (inl may) in
    let less : length part.texts < part.tracks = lacks.0 in
    let left : (1 < part.tracks - length part.texts) ⊎ (part.tracks ≤ 4294967295 - standing.tracks) = lacks.1 in
    text_more head front part text at going on less (elim left [
      | inl more ↦ inl (omega (arith, more))
      | inr fits ↦ inr (omega (arith, fits, stands.tracks, less, going.is_front.few_tracks))
    ])

track_goes : (head : DumpHead) (front : Front) (standing : Standing) → IsGoing head front → StandsAt head front standing → MayBegin head front (byte_of marks.Track)
    → (text : List ℕ) → IsTrackBytes head.device text → GoesOn IsSomeShape (front_text head front ++ (0x01 ∷ text))
track_goes head front standing going stands may text (track, on, is) =
    let (first, adds, begins) = track_of front may.next may.piece may.mark.0 may.adds (whole_piece may.piece 0x01 may.mark) in
    let part : DumpPart = adds.0 in
    let at : front.current ≡ Some part = adds.1 in
    let next : Front = with_current front (Some (with_text part track)) in
    piece_goes head front next (Track track) (0x01 ∷ text) (track_adds head front standing part track going stands may at on) (part, at, refl) (ap (λ (t : List ℕ). 0x01 ∷ t) (sym is))

track_piece : (head : DumpHead) (front next : Front) (track : Text) → Adds front (Track track) next → IsGoing head next → IsTrackBytes head.device (dumped_track track)
track_piece head front next track adds going =
    let part : DumpPart = with_text adds.0 track in
    let new : IsGoing head (with_current front (Some part)) = subst (IsGoing head) adds.2 going in
    let one : IsPart head.device part = last_is (IsPart head.device) front.parts part (logical head (with_current front (Some part)) part new.is_front refl).parts in
    (track, last_is (StandsOn head.device) adds.0.texts track one.texts, refl)

track_comes : (head : DumpHead) (front : Front) → IsGoing head front
    → (shape rest : List ℕ) → IsSomeShape shape → shape ≡ front_text head front ++ (0x01 ∷ rest) → (text : List ℕ) × IsTrackBytes head.device text × Begins text rest
track_comes head front going shape rest some e = elim (shapes_go_on head front shape (0x01 ∷ rest) going some e) [
  | inr ends ↦ absurd (omega (arith, trailer_mark head front 0x01 rest ends))
  | inl goes ↦
      let (track, adds, begins) = track_of front goes.next goes.piece rest goes.adds goes.begins in
      (dumped_track track, track_piece head front goes.next track adds goes.going, begins)
]

pub track_apart : (device : Device) (a b : List ℕ) → IsTrackBytes device a → IsTrackBytes device b → Begins a b → a ≡ b
track_apart device a b (first, on, is) (second, also, there) (more, e) =
    let whole : b ≡ dumped_track first ++ more = e ∙ ap (λ (t : List ℕ). t ++ more) is in
    let texts : piece_text (Track first) ++ more ≡ piece_text (Track second) ++ [] =
    ap (λ (t : List ℕ). 0x01 ∷ t) (sym whole ∙ there ∙ sym (append-nil (dumped_track second))) in
    let both = pieces_delimited.apart (Track first) (Track second) more [] (on.sound, few_records device first on) (also.sound, few_records device second also) texts in
    same_length a b (omega (arith, ap length e, length-append a more, ap length both.1)) (more, e)

pub track_language : (head : DumpHead) (front : Front) (standing : Standing) → IsGoing head front → StandsAt head front standing → MayBegin head front (byte_of marks.Track)
    → IsLanguage head front (byte_of marks.Track) (IsTrackBytes head.device)
track_language head front standing going stands may = record {
  goes = track_goes head front standing going stands may;
  comes = track_comes head front going;
  pieces = λ piece next rest adds goes e.
      let (track, same, tail) = track_is piece rest e in
      subst (IsTrackBytes head.device) (sym tail) (track_piece head front next track (subst (λ (p : Piece). Adds front p next) same adds) goes);
  apart = track_apart head.device;
}

-- ---- slots

pub slots_full : (full : Bool) (head : DumpHead) (front : Front) (bytes : List ℕ) → IsOfShape full head (with_slot front bytes) → full ≡ true
slots_full true head front bytes is = refl
slots_full false head front bytes is = absurd (push_not_empty front.slots bytes is.no_slots)

pub new_slot : (head : DumpHead) (front : Front) (bytes : List ℕ) → head.full ≡ true → IsGoing head front → length front.slots < head.tracks → IsCutSlot head.device bytes → IsGoing head (with_slot front bytes)
new_slot head front bytes full going less cut =
    let is = going.is_front in
    let here = slots_by head.full head front full is.behind in
    let long : length (front.slots ++ bytes ∷ []) ≡ length front.slots + 1 = length-append front.slots (bytes ∷ []) in
    record {
      is_front = record {
        header = is.header;
        behind = of_slots head.full head (with_slot front bytes) full (record {
          no_parts = here.no_parts;
          no_current = here.no_current;
          slots = All-push (IsCutSlot head.device) front.slots bytes here.slots cut;
          few = omega (arith, less, long);
        });
        few_tracks = omega (arith, less, long, ap tracks_in here.no_parts, is.header.tracks.1);
        names = is.names;
      };
      current = subst (λ (o : Option DumpPart). IfSome o (MayEndPart (with_slot front bytes))) (sym here.no_current) tt;
    }

-- a slot that was read stands there
pub slot_adds : (head : DumpHead) (front : Front) (standing : Standing) (bytes : List ℕ) → IsGoing head front → StandsAt head front standing → MayBegin head front (byte_of marks.Slot)
    → IsCutSlot head.device bytes → IsGoing head (with_slot front bytes)
slot_adds head front standing bytes going stands may cut =
    let (number, first, adds, begins) = slot_in front may.next may.piece may.mark.0 may.adds (whole_piece may.piece 0x54 may.mark) in
    let goes : IsGoing head (with_slot front first) = subst (IsGoing head) adds.1 may.going in
    let full : head.full ≡ true = slots_full head.full head front first goes.is_front.behind in
    let here = slots_by head.full head (with_slot front first) full goes.is_front.behind in
    new_slot head front bytes full going (omega (arith, here.few, length-append front.slots (first ∷ []))) cut

slot_goes : (head : DumpHead) (front : Front) (standing : Standing) → IsGoing head front → StandsAt head front standing → MayBegin head front (byte_of marks.Slot)
    → (text : List ℕ) → IsSlotText head.device standing.slots text → GoesOn IsSomeShape (front_text head front ++ (0x54 ∷ text))
slot_goes head front standing going stands may text is =
    piece_goes head front (with_slot front is.bytes) (Slot standing.slots is.bytes) (0x54 ∷ text) (slot_adds head front standing is.bytes going stands may is.cut) (stands.slots, refl)
    (ap (λ (t : List ℕ). 0x54 ∷ t) (sym is.spelled))

slot_piece : (head : DumpHead) (front next : Front) (standing : Standing) (number : ℕ) (bytes : List ℕ) → StandsAt head front standing → Adds front (Slot number bytes) next → IsGoing head next
    → IsSlotText head.device standing.slots (slot_text number bytes)
slot_piece head front next standing number bytes stands adds going =
    let new : IsGoing head (with_slot front bytes) = subst (IsGoing head) adds.1 going in
    let full : head.full ≡ true = slots_full head.full head front bytes new.is_front.behind in
    let here = slots_by head.full head (with_slot front bytes) full new.is_front.behind in
    record { bytes = bytes; cut = last_is (IsCutSlot head.device) front.slots bytes here.slots; spelled = ap (λ (n : ℕ). slot_text n bytes) (adds.0 ∙ sym stands.slots) }

slot_comes : (head : DumpHead) (front : Front) (standing : Standing) → IsGoing head front → StandsAt head front standing
    → (shape rest : List ℕ) → IsSomeShape shape → shape ≡ front_text head front ++ (0x54 ∷ rest) → (text : List ℕ) × IsSlotText head.device standing.slots text × Begins text rest
slot_comes head front standing going stands shape rest some e = elim (shapes_go_on head front shape (0x54 ∷ rest) going some e) [
  | inr ends ↦ absurd (omega (arith, trailer_mark head front 0x54 rest ends))
  | inl goes ↦
      let (number, bytes, adds, begins) = slot_in front goes.next goes.piece rest goes.adds goes.begins in
      (slot_text number bytes, slot_piece head front goes.next standing number bytes stands adds goes.going, begins)
]

pub slot_long : (number : ℕ) (bytes : List ℕ) → length (slot_text number bytes) ≡ 8 + length bytes
slot_long number bytes = omega arith

-- the numbers of bytes of slots that begin alike are the same
pub slots_long : (device : Device) (number count : ℕ) (bytes rest : List ℕ) → length bytes ≤ slot_of device → count < 2 ^ 32 → slot_text number bytes ≡ big_bytes 4 number ++ (big_bytes 4 count ++ rest)
    → length bytes ≡ count
slots_long device number count bytes rest few small e =
    let first = split_same (big_bytes 4 number) (big_bytes 4 number) (big_bytes 4 (length bytes) ++ bytes) (big_bytes 4 count ++ rest) refl e in
    let second = split_same (big_bytes 4 (length bytes)) (big_bytes 4 count) bytes rest refl first.1 in
    one_number (length bytes) count (omega (arith, few, (slot_bounds device).1)) small second.0

pub slots_apart : (device : Device) (number : ℕ) (a b : List ℕ) → IsSlotText device number a → IsSlotText device number b → Begins a b → a ≡ b
slots_apart device number a b is also (more, e) =
    let whole : slot_text number also.bytes ≡ big_bytes 4 number ++ (big_bytes 4 (length is.bytes) ++ (is.bytes ++ more)) =
    sym also.spelled ∙ e ∙ ap (λ (t : List ℕ). t ++ more) is.spelled in
    let same = slots_long device number (length is.bytes) also.bytes (is.bytes ++ more) also.cut.0 (omega (arith, is.cut.0, (slot_bounds device).1)) whole in
    same_length a b (omega (arith, ap length is.spelled, ap length also.spelled, slot_long number is.bytes, slot_long number also.bytes, same)) (more, e)

pub slot_language : (head : DumpHead) (front : Front) (standing : Standing) → IsGoing head front → StandsAt head front standing → MayBegin head front (byte_of marks.Slot)
    → IsLanguage head front (byte_of marks.Slot) (IsSlotText head.device standing.slots)
slot_language head front standing going stands may = record {
  goes = slot_goes head front standing going stands may;
  comes = slot_comes head front standing going stands;
  pieces = λ piece next rest adds goes e.
      let (number, bytes, same, tail) = slot_is piece rest e in
      subst (IsSlotText head.device standing.slots) (sym tail) (slot_piece head front next standing number bytes stands (subst (λ (p : Piece). Adds front p next) same adds) goes);
  apart = slots_apart head.device standing.slots;
}

-- ---- the end

pub whole_shape : (head : DumpHead) (front : Front) (digest : List ℕ) → MayClose head front → IsGoing head front → length digest ≡ 32
    → IsShape head front digest (front_text head front ++ (byte_of marks.Trailer ∷ (both_counts (whole_parts front) (whole_tracks front) ++ digest)))
whole_shape head front digest closes going long = record {
  is_front = going.is_front;
  closes = closes;
  long = long;
  spelled = sym (append_assoc (front_text head front) (counts_text front) digest);
}

pub counts_kept : (head : DumpHead) (front : Front) (standing : Standing) → StandsAt head front standing → both_counts standing.parts standing.tracks ≡ both_counts (whole_parts front) (whole_tracks front)
counts_kept head front standing stands = ap (λ (n : ℕ). both_counts n standing.tracks) stands.parts ∙ ap (λ (n : ℕ). both_counts (whole_parts front) n) stands.tracks

end_goes : (head : DumpHead) (front : Front) (standing : Standing) → IsGoing head front → StandsAt head front standing → MayClose head front
    → (text : List ℕ) → IsEnd standing.parts standing.tracks text → GoesOn IsSomeShape (front_text head front ++ (0x5A ∷ text))
end_goes head front standing going stands closes text (digest, long, is) =
    let counts : text ≡ both_counts (whole_parts front) (whole_tracks front) ++ digest = is ∙ ap (λ (t : List ℕ). t ++ digest) (counts_kept head front standing stands) in
    let whole : List ℕ = front_text head front ++ (0x5A ∷ text) in
    let shape : IsShape head front digest whole = subst (λ (t : List ℕ). IsShape head front digest (front_text head front ++ (0x5A ∷ t))) (sym counts) (whole_shape head front digest closes going long) in
    (whole, (head, front, digest, shape), ([], sym (append-nil whole)))

end_comes : (head : DumpHead) (front : Front) (standing : Standing) → IsGoing head front → StandsAt head front standing
    → (shape rest : List ℕ) → IsSomeShape shape → shape ≡ front_text head front ++ (0x5A ∷ rest) → (text : List ℕ) × IsEnd standing.parts standing.tracks text × Begins text rest
end_comes head front standing going stands shape rest some e = elim (shapes_go_on head front shape (0x5A ∷ rest) going some e) [
  | inl goes ↦ absurd (no_trailer goes.piece rest goes.begins)
  | inr ends ↦
      let there = ends.rest_is in
      let behind : rest ≡ both_counts (whole_parts front) (whole_tracks front) ++ ends.digest = cc in
      (rest, (ends.digest, ends.long, behind ∙ ap (λ (t : List ℕ). t ++ ends.digest) (sym (counts_kept head front standing stands))), ([], sym (append-nil rest)))
]

pub end_long : (parts tracks : ℕ) (text : List ℕ) → IsEnd parts tracks text → length text ≡ 40
end_long parts tracks text (digest, long, is) = omega (arith, ap length is, length-append (both_counts parts tracks) digest, long)

pub end_language : (head : DumpHead) (front : Front) (standing : Standing) → IsGoing head front → StandsAt head front standing → MayClose head front
    → IsLanguage head front (byte_of marks.Trailer) (IsEnd standing.parts standing.tracks)
end_language head front standing going stands closes = record {
  goes = end_goes head front standing going stands closes;
  comes = end_comes head front standing going stands;
  pieces = λ piece next rest adds goes e. absurd (no_trailer piece rest ([], sym e ∙ sym (append-nil (piece_text piece))));
  apart = λ a b is also begins. same_length a b (end_long standing.parts standing.tracks a is ∙ sym (end_long standing.parts standing.tracks b also)) begins;
}
