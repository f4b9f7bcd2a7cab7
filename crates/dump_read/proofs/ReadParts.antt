-- What a reader says of the whole where a part or a track stands ahead.
use Rattle.std.proofs.Common.{◌≡◌, ℕ, ◌+◌, ◌-◌, ◌^◌, ◌≤◌, ◌<◌, min, List, [], ◌∷◌, ◌++◌, length, take, drop, Option, Some, refl, sym, ap, subst, ◌∙◌, arith, length-append, append_assoc}
use Rattle.std.proofs.lemmas.List.{length-take, take-append-drop, take_all, take-append-le}
use Rattle.byteorder.specs.Endian.{big_bytes}
use Rattle.sha2.specs.Hashers.{Holds256}
use Rattle.ckd_image.specs.declared.device.Device.{Device}
use Rattle.ckd_image.specs.declared.device.Device.TheVariants.{D3390, D3380, D3350}
use Rattle.ckd_image.specs.declared.track.Track.{Track as Text}
use Rattle.ckd_image.specs.Bytes.{Begins}
use Rattle.ckd_image.specs.Device.{slot_of}
use Rattle.dump_fmt.specs.declared.fault.DumpFault.{DumpFault}
use Rattle.dump_fmt.specs.declared.fault.DumpFault.TheVariants.{BadDump, Truncated}
use Rattle.dump_fmt.specs.declared.piece.Piece.TheVariants as pieces
use Rattle.dump_fmt.specs.Front.{Front, begun, with_text, with_current}
use Rattle.dump_fmt.specs.Parts.{StandsOn}
use Rattle.dump_fmt.specs.Pieces.{dumped_records, dumped_track}
use Rattle.dump_read.specs.declared.field.DumpField.TheVariants as dump_fields
use Rattle.dump_read.specs.declared.mark.Mark.{Mark}
use Rattle.dump_read.specs.declared.mark.Mark.TheVariants as marks
use Rattle.dump_read.specs.declared.part.PartField.{PartField}
use Rattle.dump_read.specs.declared.part.PartField.TheVariants as fields
use Rattle.dump_read.specs.declared.part.PartHead.{PartHead}
use Rattle.dump_read.specs.declared.part.PartStop.TheVariants as part_stops
use Rattle.dump_read.specs.declared.track.TrackField.{TrackField}
use Rattle.dump_read.specs.declared.track.TrackStop.TheVariants as track_stops
use Rattle.dump_read.specs.Faults.{why_of, IsFaultBehind}
use Rattle.dump_read.specs.Feed.{largest_offset}
use Rattle.dump_read.specs.Fields.{IsFirstWrong}
use Rattle.dump_read.specs.Marks.{byte_of}
use Rattle.dump_read.specs.PartText.{place_of, length_of, IsField, IsPartText, IsPartStop, IsPartRead}
use Rattle.dump_read.specs.Reader.{ReaderView, IsAhead, IsMarked, Gives}
use Rattle.dump_read.specs.Shape.{IsGoing}
use Rattle.dump_read.specs.Standing.{Steps}
use Rattle.dump_read.specs.Tape.{TapeSeen}
use Rattle.dump_read.specs.TrackText as tracks
use Rattle.dump_read.proofs.Ahead.{mark_ahead, field_refused, cut_refused, front_of_shape, piece_read}
use Rattle.dump_read.proofs.Allowed.{begin_of, none_of, part_must, track_must}
use Rattle.dump_read.proofs.Going.{not_full}
use Rattle.dump_read.proofs.Languages.{part_adds, part_language, part_long, track_adds, track_language}
use Rattle.dump_read.proofs.Chains.{wrong_with}
use Rattle.dump_read.proofs.Lifted.{IsLanguage}
use Rattle.dump_read.proofs.Reaches.{part_reaches, records_long, track_reaches}
use Rattle.dump_read.proofs.TrackTop.{slot_bounds, records_of}

-- ---- what stands ahead

-- a text behind the mark stands there with it
text_ahead : (reader : ReaderView) (mark : Mark) (text : List ℕ) → IsAhead reader mark → Begins text (drop 1 reader.feed.window) → Begins (byte_of mark ∷ text) reader.feed.window
text_ahead reader mark text is (more, e) = (more, mark_ahead reader mark is ∙ ap (λ (t : List ℕ). byte_of mark ∷ t) e)

-- the front of some of the bytes is the front of all
front_of_all : (text bytes : List ℕ) (count : ℕ) → Begins text (take count bytes) → Begins text bytes
front_of_all text bytes count (more, e) =
    (more ++ drop count bytes, sym (take-append-drop count bytes) ∙ ap (λ (t : List ℕ). t ++ drop count bytes) e ∙ append_assoc text more (drop count bytes))

-- ---- parts

-- each field is within the 145 bytes of a part
field_within : (field : PartField) → IsField field → place_of field + length_of field ≤ 145
field_within fields.Name is = omega arith
field_within fields.Format is = omega arith
field_within fields.Count is = omega arith
field_within (fields.Extents k) is = omega (arith, is)
field_within fields.Tracks is = omega arith
field_within fields.Kind is = omega arith

part_behind : (tape : TapeSeen) (reader : ReaderView) (front : Front) → IsMarked tape reader front marks.Part → IsLanguage reader.head front (byte_of marks.Part) (IsPartText reader.standing.name)
part_behind tape reader front is =
    part_language reader.head front reader.standing is.reading.going is.reading.stands (begin_of reader.head front (byte_of marks.Part) (λ e. absurd (omega (arith, e))) is.may)

pub part_wrong : (tape : TapeSeen) (reader : ReaderView) (front : Front) (field : PartField) (count : ℕ) (fault : DumpFault) → IsMarked tape reader front marks.Part
    → IsPartStop reader.standing.name (take count (drop 1 reader.feed.window)) (part_stops.Wrong field)
    → fault ≡ BadDump (min (reader.feed.offset + (1 + place_of field)) largest_offset) (why_of (dump_fields.Part field)) → IsFaultBehind reader.head front tape.held fault
part_wrong tape reader front field count fault is (is_field, wrong) same =
    let name : Option (List ℕ) = reader.standing.name in
    let ahead : List ℕ = drop 1 reader.feed.window in
    let within = field_within field is_field in
    field_refused tape reader front marks.Part (IsPartText name) (dump_fields.Part field) (place_of field) (length_of field) fault is (part_behind tape reader front is)
    (part_reaches name ahead (place_of field) (length_of field) (omega (arith, within)))
    (subst (λ (t : List ℕ). IsFirstWrong (IsPartText name) t (place_of field) (length_of field)) (take-append-drop count ahead)
    (wrong_with (IsPartText name) (take count ahead) (drop count ahead) (place_of field) (length_of field) wrong))
    (λ more. ((drop 1 reader.feed.window ++ more, refl), is_field, refl, refl)) same

-- fewer than 145 bytes are all that stand ahead
pub part_cut : (tape : TapeSeen) (reader : ReaderView) (front : Front) (count : ℕ) (fault : DumpFault) → IsMarked tape reader front marks.Part → count ≡ min (length (drop 1 reader.feed.window)) 145
    → IsPartStop reader.standing.name (take count (drop 1 reader.feed.window)) part_stops.Cut
    → fault ≡ Truncated (min (reader.feed.offset + length reader.feed.window) largest_offset) → IsFaultBehind reader.head front tape.held fault
part_cut tape reader front count fault is few (short, (text, part, begins)) same =
    let name : Option (List ℕ) = reader.standing.name in
    let ahead : List ℕ = drop 1 reader.feed.window in
    let less : length ahead < 145 = omega (arith, few, short, length-take count ahead) in
    let all : take count ahead ≡ ahead = take_all count ahead (omega (arith, few, less)) in
    let long = part_long name text part in
    cut_refused tape reader front marks.Part (IsPartText name) text fault is (part_behind tape reader front is) part (subst (λ (t : List ℕ). Begins t text) all begins) (omega (arith, long, less))
    (omega (arith, long)) same

pub part_gives : (tape : TapeSeen) (old new : ReaderView) (front : Front) (count : ℕ) (part : PartHead) → IsMarked tape old front marks.Part
    → IsPartRead old.standing.name (take count (drop 1 old.feed.window)) part → length part.f1 ≡ 140 → part.tracks < 2 ^ 32
    → Steps old.head old.standing (pieces.Part part.f1 part.tracks part.kind) new.standing
    → new.head ≡ old.head → new.feed.window ≡ drop 146 old.feed.window → new.feed.offset ≡ min (old.feed.offset + 146) largest_offset
    → ((message : List ℕ) → Holds256 old.feed.digest message → Holds256 new.feed.digest (message ++ take 146 old.feed.window)) → Gives tape new front (pieces.Part part.f1 part.tracks part.kind)
part_gives tape old new front count part is read long small steps same window offset digest =
    let text : List ℕ = part.f1 ++ (big_bytes 4 part.tracks ++ (part.kind ∷ [])) in
    let stands = is.reading.stands in
    let going = is.reading.going in
    let room = part_must old.head front old.standing stands is.may in
    let none = none_of front.current old.standing.under_way stands.under_way room.1 in
    let next : Front = with_current front (Some (begun part.f1 part.tracks part.kind)) in
    let goes : IsGoing old.head next = part_adds old.head front old.standing part.f1 part.tracks part.kind going stands
    (begin_of old.head front (byte_of marks.Part) (λ e. absurd (omega (arith, e))) is.may) read.text long small in
    piece_read tape old new front next marks.Part (pieces.Part part.f1 part.tracks part.kind) 146 is (none, refl) goes (front_of_shape old.head next room.0 goes.is_front)
    (steps front next going stands (none, refl) goes) (text_ahead old marks.Part text is.ahead (front_of_all text (drop 1 old.feed.window) count read.begins))
    (omega (arith, part_long old.standing.name text read.text)) same window offset digest

-- ---- tracks

slot_small : (device : Device) → slot_of device ≤ 56832
slot_small D3390 = omega arith
slot_small D3380 = omega arith
slot_small D3350 = omega arith

-- a track has fewer bytes than are looked at
track_short : (device : Device) (track : Text) → StandsOn device track → length (dumped_track track) < 57343
track_short device track on =
    let bounds = slot_bounds device in
    let records = records_of device (slot_of device - 29) track (omega (arith, bounds.0)) on in
    omega (arith, slot_small device, records.0, records.1.within, records_long track.recs, length-append track.r0 (big_bytes 2 (length track.recs) ++ dumped_records track.recs), on.sound.zero)

-- what stands before a wrong field is there
wrong_within : (device : Device) (bytes : List ℕ) (field : TrackField) (place : ℕ) → tracks.IsTrackStop device bytes (track_stops.Wrong field place) → place ≤ length bytes
wrong_within device bytes field place (behind, wrong) = omega (arith, wrong.place_is, ap length wrong.spelled, length-append wrong.front wrong.rest)

-- and no more of it than a track has
wrong_short : (device : Device) (bytes : List ℕ) (field : TrackField) (place : ℕ) → tracks.IsTrackStop device bytes (track_stops.Wrong field place) → place ≤ 65535
wrong_short device bytes field place (behind, wrong) =
    let (text, (track, on, is), (more, e)) = wrong.begun in
    omega (arith, wrong.place_is, ap length e, length-append wrong.front more, ap length is, track_short device track on)

track_behind : (tape : TapeSeen) (reader : ReaderView) (front : Front) → IsMarked tape reader front marks.Track → IsLanguage reader.head front (byte_of marks.Track) (tracks.IsTrackBytes reader.head.device)
track_behind tape reader front is =
    track_language reader.head front reader.standing is.reading.going is.reading.stands (begin_of reader.head front (byte_of marks.Track) (λ e. absurd (omega (arith, e))) is.may)

pub track_wrong : (tape : TapeSeen) (reader : ReaderView) (front : Front) (field : TrackField) (place : ℕ) (fault : DumpFault) → IsMarked tape reader front marks.Track
    → tracks.IsTrackStop reader.head.device (drop 1 reader.feed.window) (track_stops.Wrong field place)
    → fault ≡ BadDump (min (reader.feed.offset + (1 + place)) largest_offset) (why_of (dump_fields.Track field)) → IsFaultBehind reader.head front tape.held fault
track_wrong tape reader front field place fault is (behind, wrong) same =
    let ahead : List ℕ = drop 1 reader.feed.window in
    let within = wrong_within reader.head.device ahead field place (behind, wrong) in
    field_refused tape reader front marks.Track (tracks.IsTrackBytes reader.head.device) (dump_fields.Track field) place (tracks.length_of field) fault is (track_behind tape reader front is)
    (track_reaches reader.head.device field ahead place behind) wrong
    (λ more. (
      (drop 1 reader.feed.window ++ more, refl),
      (place, wrong_short reader.head.device ahead field place (behind, wrong), refl, subst (tracks.IsFieldBehind field) (sym (take-append-le place (drop 1 reader.feed.window) more within)) behind),
      refl,
    )) same

pub track_cut : (tape : TapeSeen) (reader : ReaderView) (front : Front) (fault : DumpFault) → IsMarked tape reader front marks.Track
    → tracks.IsTrackStop reader.head.device (drop 1 reader.feed.window) track_stops.Cut
    → fault ≡ Truncated (min (reader.feed.offset + length reader.feed.window) largest_offset) → IsFaultBehind reader.head front tape.held fault
track_cut tape reader front fault is (text, (track, on, spelled), begins, less) same =
    cut_refused tape reader front marks.Track (tracks.IsTrackBytes reader.head.device) text fault is (track_behind tape reader front is) (track, on, spelled) begins less
    (omega (arith, ap length spelled, track_short reader.head.device track on)) same

pub track_gives : (tape : TapeSeen) (old new : ReaderView) (front : Front) (track : Text) (count : ℕ) → IsMarked tape old front marks.Track
    → tracks.IsTrackRead old.head.device (drop 1 old.feed.window) track count → Steps old.head old.standing (pieces.Track track) new.standing
    → new.head ≡ old.head → new.feed.window ≡ drop (count + 1) old.feed.window → new.feed.offset ≡ min (old.feed.offset + (count + 1)) largest_offset
    → ((message : List ℕ) → Holds256 old.feed.digest message → Holds256 new.feed.digest (message ++ take (count + 1) old.feed.window)) → Gives tape new front (pieces.Track track)
track_gives tape old new front track count is read steps same window offset digest =
    let stands = is.reading.stands in
    let going = is.reading.going in
    let (part, at, lacks) = track_must old.head front is.may in
    let next : Front = with_current front (Some (with_text part track)) in
    let goes : IsGoing old.head next = track_adds old.head front old.standing part track going stands
    (begin_of old.head front (byte_of marks.Track) (λ e. absurd (omega (arith, e))) is.may) at read.stands in
    piece_read tape old new front next marks.Track (pieces.Track track) (count + 1) is (part, at, refl) goes
    (front_of_shape old.head next (not_full old.head.full old.head front part at going.is_front.behind) goes.is_front) (steps front next going stands (part, at, refl) goes)
    (text_ahead old marks.Track (dumped_track track) is.ahead read.begins) (omega (arith, read.all)) same window offset digest
