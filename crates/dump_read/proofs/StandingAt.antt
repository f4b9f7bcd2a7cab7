-- Where a dump stands once a piece more stands there.
use Rattle.std.proofs.Common.{◌≡◌, ℕ, ◌+◌, ◌≤◌, min, List, [], ◌∷◌, ◌++◌, length, take, Option, Some, None, IsTrue, refl, sym, ap, subst, ◌∙◌, arith, length-append}
use Rattle.std.proofs.lemmas.List.{append-nil}
use Rattle.std.proofs.lemmas.Option.{none-some, same_Some}
use Rattle.ckd_image.specs.declared.track.Track.{Track as Text}
use Rattle.dump_fmt.specs.declared.piece.DumpHead.{DumpHead}
use Rattle.dump_fmt.specs.declared.piece.Piece.TheVariants as pieces
use Rattle.dump_fmt.specs.Parts.{DumpPart, IsPart, is_whole}
use Rattle.dump_fmt.specs.Front.{Front, Adds, all_parts, largest_count, begun, with_text, with_current, with_part}
use Rattle.dump_read.specs.Shape.{IsGoing}
use Rattle.dump_read.specs.declared.standing.UnderWay.{UnderWay}
use Rattle.dump_read.specs.declared.standing.Standing.{Standing}
use Rattle.dump_read.specs.Standing.{StandsAt, IsUnderWay, KeepsLabel, last_name, name_of}
use Rattle.dump_read.proofs.Counts.{parts_in, tracks_in, parts_push, tracks_push, whole_few, all_none, all_some, all_ended}
use Rattle.dump_read.proofs.Going.{logical, logical_by, not_full_ended, last_is}

-- the name of the last part
pub last_pushed : (parts : List DumpPart) (part : DumpPart) → last_name (parts ++ part ∷ []) ≡ Some (name_of part)
last_pushed [] part = refl
last_pushed (x ∷ []) part = refl
last_pushed (x ∷ (y ∷ more)) part = last_pushed (y ∷ more) part

pub under_of : (current : Option DumpPart) (part : DumpPart) (under : Option UnderWay) → current ≡ Some part → IsUnderWay current under → under ≡ Some (record { due = part.tracks; read = length part.texts })
under_of current part under at is = subst (λ (o : Option DumpPart). IsUnderWay o under) at is

-- a part begins
begins_so : (head : DumpHead) (front : Front) (part : DumpPart) (old new : Standing) → front.current ≡ None → StandsAt head front old → IsGoing head (with_current front (Some part)) → part.texts ≡ []
    → new.name ≡ Some (name_of part) → new.begun ≡ min (old.begun + 1) largest_count → new.parts ≡ old.parts → new.tracks ≡ old.tracks
    → new.under_way ≡ Some (record { due = part.tracks; read = 0 }) → new.slots ≡ old.slots → new.label ≡ old.label → StandsAt head (with_current front (Some part)) new
begins_so head front part old new none stands going empty name begun parts tracks under slots label =
    let next : Front = with_current front (Some part) in
    let few = (logical head next part going.is_front refl).few in
    let long : length (front.parts ++ part ∷ []) ≡ length front.parts + 1 = length-append front.parts (part ∷ []) in
    let count : old.begun ≡ length front.parts = stands.begun ∙ ap length (all_none front none) in
    record {
      name = name ∙ sym (last_pushed front.parts part);
      begun = omega (arith, begun, few, long, count);
      parts = parts ∙ stands.parts;
      tracks = tracks ∙ stands.tracks;
      under_way = under ∙ ap (λ (t : List Text). Some (record { due = part.tracks; read = length t })) (sym empty);
      slots = slots ∙ stands.slots;
      label = subst (KeepsLabel head front.slots) (sym label) stands.label;
    }

pub begins_at : (head : DumpHead) (front next : Front) (f1 name : List ℕ) (due kind : ℕ) (old new : Standing) → take 44 f1 ≡ name → IsGoing head front → StandsAt head front old
    → Adds front (pieces.Part f1 due kind) next → IsGoing head next
    → new.name ≡ Some name → new.begun ≡ min (old.begun + 1) largest_count → new.parts ≡ old.parts → new.tracks ≡ old.tracks
    → new.under_way ≡ Some (record { due = due; read = 0 }) → new.slots ≡ old.slots → new.label ≡ old.label → StandsAt head next new
begins_at head front next f1 name due kind old new is going stands adds on named count parts tracks under slots label =
    let goes : IsGoing head (with_current front (Some (begun f1 due kind))) = subst (IsGoing head) adds.1 on in
    subst (λ (f : Front). StandsAt head f new) (sym adds.1)
    (begins_so head front (begun f1 due kind) old new adds.0 stands goes refl (named ∙ ap (λ (n : List ℕ). Some n) (sym is)) count parts tracks under slots label)

-- it has a track more
text_so : (head : DumpHead) (front : Front) (part : DumpPart) (text : Text) (old new : Standing) → front.current ≡ Some part → StandsAt head front old
    → new.name ≡ old.name → new.begun ≡ old.begun → new.parts ≡ old.parts → new.tracks ≡ old.tracks
    → new.under_way ≡ Some (record { due = part.tracks; read = length part.texts + 1 }) → new.slots ≡ old.slots → new.label ≡ old.label
    → StandsAt head (with_current front (Some (with_text part text))) new
text_so head front part text old new at stands name begun parts tracks under slots label =
    let all : all_parts front ≡ front.parts ++ part ∷ [] = all_some front part at in
    let long : length (part.texts ++ text ∷ []) ≡ length part.texts + 1 = length-append part.texts (text ∷ []) in
    let same : length (front.parts ++ part ∷ []) ≡ length (front.parts ++ with_text part text ∷ []) =
    length-append front.parts (part ∷ []) ∙ sym (length-append front.parts (with_text part text ∷ [])) in
    record {
      name = name ∙ stands.name ∙ ap last_name all ∙ last_pushed front.parts part ∙ sym (last_pushed front.parts (with_text part text));
      begun = begun ∙ stands.begun ∙ ap length all ∙ same;
      parts = parts ∙ stands.parts;
      tracks = tracks ∙ stands.tracks;
      under_way = under ∙ ap (λ (n : ℕ). Some (record { due = part.tracks; read = n })) (sym long);
      slots = slots ∙ stands.slots;
      label = subst (KeepsLabel head front.slots) (sym label) stands.label;
    }

-- a reader's tracks of the part under way
pub current_of : (current : Option DumpPart) (under : Option UnderWay) (u : UnderWay) → IsUnderWay current under → under ≡ Some u
    → (part : DumpPart) × (current ≡ Some part) × (u ≡ record { due = part.tracks; read = length part.texts })
current_of None under u is there = absurd (none-some u (sym is ∙ there))
current_of (Some part) under u is there = (part, refl, same_Some u (record { due = part.tracks; read = length part.texts }) (sym there ∙ is))

-- what is under way, of the part that is
pub under_same : (front : Front) (part : DumpPart) (under : Option UnderWay) (u : UnderWay) → front.current ≡ Some part → IsUnderWay front.current under → under ≡ Some u
    → u ≡ record { due = part.tracks; read = length part.texts }
under_same front part under u at is there = same_Some u (record { due = part.tracks; read = length part.texts }) (sym there ∙ under_of front.current part under at is)

pub text_at : (head : DumpHead) (front next : Front) (text : Text) (old new : Standing) (u : UnderWay) → IsGoing head front → StandsAt head front old → Adds front (pieces.Track text) next → IsGoing head next
    → old.under_way ≡ Some u → new.name ≡ old.name → new.begun ≡ old.begun → new.parts ≡ old.parts → new.tracks ≡ old.tracks
    → new.under_way ≡ Some (record { due = u.due; read = min (u.read + 1) largest_count }) → new.slots ≡ old.slots → new.label ≡ old.label → StandsAt head next new
text_at head front next text old new u going stands (part, at, is) on there name begun parts tracks under slots label =
    let here = with_current front (Some (with_text part text)) in
    let goes : IsGoing head here = subst (IsGoing head) is on in
    let same : u ≡ record { due = part.tracks; read = length part.texts } = under_same front part old.under_way u at stands.under_way there in
    let one : IsPart head.device (with_text part text) = last_is (IsPart head.device) front.parts (with_text part text) (logical head here (with_text part text) goes.is_front refl).parts in
    let few : min (length part.texts + 1) largest_count ≡ length part.texts + 1 = omega (arith, one.within, one.few, length-append part.texts (text ∷ [])) in
    subst (λ (f : Front). StandsAt head f new) (sym is)
    (text_so head front part text old new at stands name begun parts tracks
    (under ∙ ap (λ (v : UnderWay). Some (record { due = v.due; read = min (v.read + 1) largest_count })) same ∙ ap (λ (n : ℕ). Some (record { due = part.tracks; read = n })) few) slots label)

-- it ends with all of its tracks
end_so : (head : DumpHead) (front : Front) (part : DumpPart) (old new : Standing) → front.current ≡ Some part → IsTrue (is_whole part) → StandsAt head front old → IsGoing head (with_part front part)
    → new.name ≡ old.name → new.begun ≡ old.begun → new.parts ≡ min (old.parts + 1) largest_count → new.tracks ≡ min (old.tracks + part.tracks) largest_count
    → new.under_way ≡ None → new.slots ≡ old.slots → new.label ≡ old.label → StandsAt head (with_part front part) new
end_so head front part old new at whole stands going name begun parts tracks under slots label =
    let next : Front = with_part front part in
    let all : all_parts next ≡ all_parts front = all_ended front part at in
    let is = going.is_front in
    let here = logical_by head.full head next (not_full_ended head front part is) is.behind in
    let some : parts_in (front.parts ++ part ∷ []) ≡ parts_in front.parts + 1 = parts_push front.parts part whole in
    let more : tracks_in (front.parts ++ part ∷ []) ≡ tracks_in front.parts + part.tracks = tracks_push front.parts part whole in
    let few : length (front.parts ++ part ∷ []) ≤ largest_count = subst (λ (l : List DumpPart). length l ≤ largest_count) (append-nil (front.parts ++ part ∷ [])) here.few in
    let none : length front.slots ≡ 0 = ap length here.no_slots in
    record {
      name = name ∙ stands.name ∙ ap last_name (sym all);
      begun = begun ∙ stands.begun ∙ ap length (sym all);
      parts = omega (arith, parts, stands.parts, some, none, few, whole_few (front.parts ++ part ∷ []));
      tracks = omega (arith, tracks, stands.tracks, more, none, is.few_tracks);
      under_way = under;
      slots = slots ∙ stands.slots;
      label = subst (KeepsLabel head front.slots) (sym label) stands.label;
    }

pub end_at : (head : DumpHead) (front next : Front) (old new : Standing) (u : UnderWay) → IsGoing head front → StandsAt head front old → Adds front pieces.PartEnd next → IsGoing head next
    → old.under_way ≡ Some u → new.name ≡ old.name → new.begun ≡ old.begun → new.parts ≡ min (old.parts + 1) largest_count → new.tracks ≡ min (old.tracks + u.due) largest_count
    → new.under_way ≡ None → new.slots ≡ old.slots → new.label ≡ old.label → StandsAt head next new
end_at head front next old new u going stands (part, at, whole, is) on there name begun parts tracks under slots label =
    let goes : IsGoing head (with_part front part) = subst (IsGoing head) is on in
    let same : u ≡ record { due = part.tracks; read = length part.texts } = under_same front part old.under_way u at stands.under_way there in
    subst (λ (f : Front). StandsAt head f new) (sym is)
    (end_so head front part old new at whole stands goes name begun parts (tracks ∙ ap (λ (v : UnderWay). min (old.tracks + v.due) largest_count) same) under slots label)
