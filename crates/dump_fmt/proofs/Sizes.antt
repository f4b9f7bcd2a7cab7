-- What a piece that may stand next fits.
use Rattle.std.proofs.Common.{◌≡◌, ℕ, ◌+◌, ◌-◌, ◌^◌, ◌≤◌, Bool, true, false, not, if◌then◌else◌, List, [], ◌∷◌, ◌++◌, length, filter, sum_by, All, Option, Some, option_to_list, refl, sym, ap, subst, ◌∙◌, arith, length-append}
use Rattle.std.proofs.lemmas.Option.{none-some}
use Rattle.std.proofs.lemmas.Bool.{ne_eqb}
use Rattle.std.proofs.lemmas.List.Elements.{All-contains, Contains-push, filter-append}
use Rattle.std.proofs.lemmas.List.Filters.{length-filter_both}
use Rattle.std.proofs.lemmas.List.Sums.{sum_by-append}
use Rattle.ckd_image.specs.declared.device.Device.{Device}
use Rattle.ckd_image.specs.declared.track.TrackAt.{TrackAt}
use Rattle.ckd_image.specs.declared.track.Rec.{Rec}
use Rattle.ckd_image.specs.declared.track.Track.{Track as Text}
use Rattle.ckd_image.specs.Device.{slot_of}
use Rattle.ckd_image.specs.Track.{record_text, records_text, home_text, zero_text, end_mark}
use Rattle.dump_fmt.specs.declared.piece.DumpHead.{DumpHead}
use Rattle.dump_fmt.specs.declared.piece.Piece.{Piece}
use Rattle.dump_fmt.specs.declared.piece.Piece.TheVariants.{Part, Track, PartEnd, Dropped, Slot}
use Rattle.dump_fmt.specs.declared.progress.Progress.{Progress}
use Rattle.dump_fmt.specs.Pieces.{FitsFields}
use Rattle.dump_fmt.specs.Parts.{DumpPart, StandsOn, IsPart, is_whole}
use Rattle.dump_fmt.specs.Front.{Front, Adds, IsFront, IsOfKind, IsCutSlot, all_parts, whole_parts, whole_tracks, begun, with_text, with_part, with_current, with_slot}
use Rattle.dump_fmt.specs.Counting.{FitsCounts, AreCounted}
use Rattle.dump_fmt.specs.Writing.{IsDue}
use Rattle.dump_fmt.proofs.Fronts.{push_not_empty}
use Rattle.ckd_image.proofs.Devices.{shorter_slot}

-- ---- fields

pub recs_short : (at : TrackAt) (recs : List Rec) → length recs ≤ length (records_text at recs)
recs_short at [] = omega arith
recs_short at (rec ∷ recs) = omega (arith, recs_short at recs, length-append (record_text at rec) (records_text at recs))

pub few_records : (device : Device) (track : Text) → StandsOn device track → length track.recs ≤ 65535
few_records device track stands =
    let at : TrackAt = record { cylinder = 0; head = 0 } in
    let home = home_text at track.flag in
    let zero = zero_text at track.r0 in
    let records = records_text at track.recs in
    let short : length (((home ++ zero) ++ records) ++ end_mark) ≤ slot_of device = stands.short at in
    let slot = shorter_slot device in
    let some = recs_short at track.recs in
    omega (arith, some, short, slot, length-append ((home ++ zero) ++ records) end_mark, length-append (home ++ zero) records, length-append home zero)

text_stands : (full : Bool) (head : DumpHead) (front next : Front) (part : DumpPart) (text : Text) → next ≡ with_current front (Some (with_text part text)) → IsOfKind full head next
    → StandsOn head.device text
text_stands true head front next part text is kind = absurd (none-some (with_text part text) (sym kind.no_current ∙ ap (λ (f : Front). f.current) is))
text_stands false head front next part text is kind =
    let parts = subst (λ (f : Front). All (IsPart head.device) (all_parts f)) is kind.parts in
    let sound = All-contains (IsPart head.device) (front.parts ++ with_text part text ∷ []) (with_text part text) parts (Contains-push front.parts (with_text part text)) in
    All-contains (StandsOn head.device) (part.texts ++ text ∷ []) text sound.texts (Contains-push part.texts text)

slot_fits : (full : Bool) (head : DumpHead) (front next : Front) (bytes : List ℕ) → next ≡ with_slot front bytes → IsOfKind full head next → length bytes ≤ 65535
slot_fits true head front next bytes is kind =
    let slots = subst (λ (f : Front). All (IsCutSlot head.device) f.slots) is kind.slots in
    let cut = All-contains (IsCutSlot head.device) (front.slots ++ bytes ∷ []) bytes slots (Contains-push front.slots bytes) in
    omega (arith, cut.0, shorter_slot head.device)
slot_fits false head front next bytes is kind = absurd (push_not_empty front.slots bytes (sym (ap (λ (f : Front). f.slots) is) ∙ kind.no_slots))

pub fits_fields : (head : DumpHead) (front : Front) (piece : Piece) (next : Front) → Adds front piece next → IsFront head next → FitsFields piece
fits_fields head front (Part f1 tracks kind) next adds stands = tt
fits_fields head front (Track text) next adds stands =
    let on = text_stands head.full head front next adds.0 text adds.2 stands.behind in
    (on.sound, few_records head.device text on)
fits_fields head front PartEnd next adds stands = tt
fits_fields head front Dropped next adds stands = tt
fits_fields head front (Slot number bytes) next adds stands = slot_fits head.full head front next bytes adds.1 stands.behind

-- ---- counts

filter_push : (parts : List DumpPart) (part : DumpPart) (whole : Bool) → is_whole part ≡ whole → filter is_whole (parts ++ part ∷ []) ≡ filter is_whole parts ++ (if whole then part ∷ [] else [])
filter_push parts part whole is = filter-append is_whole parts (part ∷ []) ∙ ap (λ (b : Bool). filter is_whole parts ++ (if b then part ∷ [] else [])) is

filter_short : (parts : List DumpPart) → length (filter is_whole parts) ≤ length parts
filter_short parts = omega (arith, length-filter_both is_whole (λ part. not (is_whole part)) (λ part. refl) parts)

one_sum : (n : ℕ) → 0 + n ≡ n
one_sum n = omega arith

-- a whole part counts with its tracks, and a dropped one doesn't count
whole_more : (front : Front) (part : DumpPart) → is_whole part ≡ true → (whole_parts (with_part front part) ≡ whole_parts front + 1) × (whole_tracks (with_part front part) ≡ whole_tracks front + part.tracks)
whole_more front part is =
    let same = filter_push front.parts part true is in
    let count : length (filter is_whole (front.parts ++ part ∷ [])) ≡ length (filter is_whole front.parts) + 1 =
    ap (λ (l : List DumpPart). length l) same ∙ length-append (filter is_whole front.parts) (part ∷ []) in
    let tracks : sum_by (λ p. p.tracks) (filter is_whole (front.parts ++ part ∷ [])) ≡ sum_by (λ p. p.tracks) (filter is_whole front.parts) + part.tracks =
    ap (λ (l : List DumpPart). sum_by (λ p. p.tracks) l) same ∙ sum_by-append (λ (p : DumpPart). p.tracks) (filter is_whole front.parts) (part ∷ [])
    ∙ ap (λ (n : ℕ). sum_by (λ p. p.tracks) (filter is_whole front.parts) + n) (one_sum part.tracks) in
    (omega (arith, count), omega (arith, tracks))

dropped_more : (front : Front) (part : DumpPart) → is_whole part ≡ false → (whole_parts (with_part front part) ≡ whole_parts front) × (whole_tracks (with_part front part) ≡ whole_tracks front)
dropped_more front part is =
    let same = filter_push front.parts part false is in
    let count : length (filter is_whole (front.parts ++ part ∷ [])) ≡ length (filter is_whole front.parts) =
    ap (λ (l : List DumpPart). length l) same ∙ length-append (filter is_whole front.parts) [] ∙ omega arith in
    let tracks : sum_by (λ p. p.tracks) (filter is_whole (front.parts ++ part ∷ [])) ≡ sum_by (λ p. p.tracks) (filter is_whole front.parts) =
    ap (λ (l : List DumpPart). sum_by (λ p. p.tracks) l) same ∙ sum_by-append (λ (p : DumpPart). p.tracks) (filter is_whole front.parts) [] ∙ omega arith in
    (omega (arith, count), omega (arith, tracks))

slot_more : (front : Front) (bytes : List ℕ) → (whole_parts (with_slot front bytes) ≡ whole_parts front + 1) × (whole_tracks (with_slot front bytes) ≡ whole_tracks front + 1)
slot_more front bytes = (omega (arith, length-append front.slots (bytes ∷ [])), omega (arith, length-append front.slots (bytes ∷ [])))

few_whole : (full : Bool) (head : DumpHead) (front : Front) → head.tracks ≤ 65535 → IsOfKind full head front → whole_parts front ≤ 2 ^ 32 - 1
few_whole true head front tracks kind =
    let none : length (filter is_whole front.parts) ≡ 0 = ap (λ (l : List DumpPart). length (filter is_whole l)) kind.no_parts in
    omega (arith, none, kind.few, tracks)
few_whole false head front tracks kind =
    let none : length front.slots ≡ 0 = ap (λ (l : List (List ℕ)). length l) kind.no_slots in
    omega (arith, none, filter_short front.parts, length-append front.parts (option_to_list front.current), kind.few)

-- what is counted is that of the dump so far
pub record Agrees (front : Front) (progress : Progress) : Type 0 where
  pub parts : progress.parts ≡ whole_parts front
  pub tracks : progress.tracks ≡ whole_tracks front
  pub due : IsDue front.current progress.due

due_of : (front : Front) (progress : Progress) (part : DumpPart) → front.current ≡ Some part → IsDue front.current progress.due → progress.due ≡ part.tracks
due_of front progress part at due = subst (λ (o : Option DumpPart). IsDue o progress.due) at due

pub fits_counts : (head : DumpHead) (front : Front) (piece : Piece) (next : Front) (progress : Progress) → Adds front piece next → IsFront head next → Agrees front progress → FitsCounts piece progress
fits_counts head front (Part f1 tracks kind) next progress adds stands agrees = tt
fits_counts head front (Track text) next progress adds stands agrees = tt
fits_counts head front PartEnd next progress adds stands agrees =
    let more = whole_more front adds.0 adds.2 in
    let parts : whole_parts next ≡ whole_parts front + 1 = ap whole_parts adds.3 ∙ more.0 in
    let tracks : whole_tracks next ≡ whole_tracks front + adds.0.tracks = ap whole_tracks adds.3 ∙ more.1 in
    let few = few_whole head.full head next stands.header.tracks.1 stands.behind in
    (omega (arith, parts, few, agrees.parts), omega (arith, tracks, stands.few_tracks, agrees.tracks, due_of front progress adds.0 adds.1 agrees.due))
fits_counts head front Dropped next progress adds stands agrees = tt
fits_counts head front (Slot number bytes) next progress adds stands agrees =
    let more = slot_more front bytes in
    let parts : whole_parts next ≡ whole_parts front + 1 = ap whole_parts adds.1 ∙ more.0 in
    let tracks : whole_tracks next ≡ whole_tracks front + 1 = ap whole_tracks adds.1 ∙ more.1 in
    let few = few_whole head.full head next stands.header.tracks.1 stands.behind in
    (omega (arith, parts, few, agrees.parts), omega (arith, tracks, stands.few_tracks, agrees.tracks))

current_due : (front next : Front) (due : ℕ) (part : DumpPart) → next ≡ with_current front (Some part) → due ≡ part.tracks → IsDue next.current due
current_due front next due part is same = subst (λ (f : Front). IsDue f.current due) (sym is) same

none_due : (front next : Front) (due : ℕ) (part : DumpPart) → next ≡ with_part front part → IsDue next.current due
none_due front next due part is = subst (λ (f : Front). IsDue f.current due) (sym is) tt

pub counted : (front : Front) (piece : Piece) (next : Front) (old new : Progress) → Adds front piece next → Agrees front old → AreCounted piece old new → Agrees next new
counted front (Part f1 tracks kind) next old new adds agrees is = record {
  parts = is.0 ∙ agrees.parts ∙ sym (ap whole_parts adds.1);
  tracks = is.1 ∙ agrees.tracks ∙ sym (ap whole_tracks adds.1);
  due = current_due front next new.due (begun f1 tracks kind) adds.1 is.2;
}
counted front (Track text) next old new adds agrees is = record {
  parts = is.0 ∙ agrees.parts ∙ sym (ap whole_parts adds.2);
  tracks = is.1 ∙ agrees.tracks ∙ sym (ap whole_tracks adds.2);
  due = current_due front next new.due (with_text adds.0 text) adds.2 (is.2 ∙ due_of front old adds.0 adds.1 agrees.due);
}
counted front PartEnd next old new adds agrees is =
    let more = whole_more front adds.0 adds.2 in
    let parts : whole_parts next ≡ whole_parts front + 1 = ap whole_parts adds.3 ∙ more.0 in
    let tracks : whole_tracks next ≡ whole_tracks front + adds.0.tracks = ap whole_tracks adds.3 ∙ more.1 in
    record {
      parts = omega (arith, is.0, agrees.parts, parts);
      tracks = omega (arith, is.1, agrees.tracks, tracks, due_of front old adds.0 adds.1 agrees.due);
      due = none_due front next new.due adds.0 adds.3;
    }
counted front Dropped next old new adds agrees is =
    let short = adds.2 in
    let more = dropped_more front adds.0 (ne_eqb (length adds.0.texts) adds.0.tracks (λ same. omega (arith, short, same))) in
    record {
      parts = is.0 ∙ agrees.parts ∙ sym (ap whole_parts adds.3 ∙ more.0);
      tracks = is.1 ∙ agrees.tracks ∙ sym (ap whole_tracks adds.3 ∙ more.1);
      due = none_due front next new.due adds.0 adds.3;
    }
counted front (Slot number bytes) next old new adds agrees is =
    let more = slot_more front bytes in
    let parts : whole_parts next ≡ whole_parts front + 1 = ap whole_parts adds.1 ∙ more.0 in
    let tracks : whole_tracks next ≡ whole_tracks front + 1 = ap whole_tracks adds.1 ∙ more.1 in
    record {
      parts = omega (arith, is.0, agrees.parts, parts);
      tracks = omega (arith, is.1, agrees.tracks, tracks);
      due = subst (λ (f : Front). IsDue f.current new.due) (sym adds.1) (subst (λ (n : ℕ). IsDue front.current n) (sym is.2) agrees.due);
    }
