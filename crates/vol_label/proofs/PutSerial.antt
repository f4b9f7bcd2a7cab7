-- A label with another serial.
use Rattle.std.proofs.Common.{◌≡◌, ℕ, ◌<◌, ◌≤◌, ◌+◌, ◌==◌, true, List, [], ◌∷◌, ◌++◌, length, map, drop, slice_index_or, Some, None, Bool, if◌then◌else◌, find, subst, refl, sym, ap, ◌∙◌, arith}
use Rattle.std.specs.List.{position, position_or_len, slice_get}
use Rattle.std.proofs.lemmas.Bool.{lt-ltb}
use Rattle.std.proofs.lemmas.List.{get_or-map}
use Rattle.std.proofs.Math.Seq.{drop-append_seam}
use Rattle.std.proofs.lemmas.List.Folds.{find_at, find-set}
use Rattle.std.proofs.lemmas.List.Sums.{passes_at_first}
use Rattle.std.proofs.lemmas.Option.{same_Some, slice_get_within, get_or_from_slice_get}
use Rattle.ckd_image.specs.declared.head.Head.{Head}
use Rattle.ckd_image.specs.declared.track.Rec.{Rec}
use Rattle.ckd_image.specs.declared.track.Track.{Track}
use Rattle.ckd_image.specs.Address.{cchhr_text}
use Rattle.ckd_image.specs.Body.{over, IsBodyPut}
use Rattle.vol_label.specs.declared.label.Label.{Label}
use Rattle.vol_label.specs.declared.serial.Serial.{Serial}
use Rattle.vol_label.specs.Label.{label_key, IsLabel, IsSerialPut, HasLabel, KeepsLabel}
use Rattle.ckd_image.proofs.Overs.{over_length}

-- where the label stands
abbrev pub place_in : List Rec → ℕ
place_in recs = position_or_len (λ rec. rec.r == 3) recs

stands_at : (head : Head) (recs : List Rec) (label : Label) (l : IsLabel head recs label) → slice_get recs (place_in recs) ≡ Some l.rec
stands_at head recs label l = sym (find_at (λ (rec : Rec). rec.r == 3) recs) ∙ l.numbered

pub label_within : (track : Track) → HasLabel track → place_in track.recs < length track.recs
label_within track h = slice_get_within track.recs (place_in track.recs) h.2.rec (stands_at h.0 track.recs h.1 h.2)

pub label_room : (track : Track) → HasLabel track → length (slice_index_or (map (λ rec. rec.body) track.recs) (place_in track.recs) []) ≡ 80
label_room track h =
    let there = stands_at h.0 track.recs h.1 h.2 in
    ap length (get_or-map (λ (rec : Rec). rec.body) track.recs (place_in track.recs) h.2.rec [] (label_within track h)
    ∙ ap (λ (rec : Rec). rec.body) (get_or_from_slice_get track.recs (place_in track.recs) h.2.rec h.2.rec there))
    ∙ h.2.long

-- what stands behind six bytes
behind_six : (six rest : List ℕ) → length six ≡ 6 → drop 6 (six ++ rest) ≡ rest
behind_six six rest long = ap (λ (n : ℕ). drop n (six ++ rest)) (sym long) ∙ drop-append_seam six rest

-- the body of a label with another serial
other_body : (serial : Serial) (body six rest : List ℕ) → body ≡ label_key ++ (six ++ rest) → length six ≡ 6 → length serial.text ≡ 6
    → over 4 serial.text body ≡ label_key ++ (serial.text ++ rest)
other_body serial body six rest spelled long longer =
    ap (over 4 serial.text) spelled
    ∙ ap (λ (n : ℕ). label_key ++ (serial.text ++ drop (4 + n) (label_key ++ (six ++ rest)))) longer
    ∙ ap (λ (tail : List ℕ). label_key ++ (serial.text ++ tail)) (behind_six six rest long)

pub keeps_label : (serial : Serial) (old new : Track) → IsSerialPut serial old new → KeepsLabel serial old new
keeps_label serial old new put head label l lawful =
    let there = stands_at head old.recs label l in
    let same : put.rec ≡ l.rec = same_Some put.rec l.rec (sym put.there ∙ there) in
    let within = slice_get_within old.recs (place_in old.recs) l.rec there in
    let changed : Rec = record { r = put.rec.r; key = put.rec.key; body = over 4 serial.text put.rec.body } in
    let numbered : (put.rec.r == 3) ≡ true =
    ap (λ (rec : Rec). rec.r == 3) (sym (get_or_from_slice_get old.recs (place_in old.recs) put.rec put.rec put.there))
    ∙ passes_at_first (λ (rec : Rec). rec.r == 3) old.recs put.rec within in
    let body : over 4 serial.text put.rec.body ≡ label_key ++ (serial.text ++ (l.text.security ∷ (cchhr_text label.vtoc ++ l.text.rest))) =
    other_body serial put.rec.body label.serial.text (l.text.security ∷ (cchhr_text label.vtoc ++ l.text.rest))
    (ap (λ (rec : Rec). rec.body) same ∙ l.text.spelled) l.text.serial.1.six lawful.1.six in
    record {
      rec = changed;
      numbered = ap (λ (recs : List Rec). find (λ rec. rec.r == 3) recs) put.recs
          ∙ find-set (λ (rec : Rec). rec.r == 3) old.recs (place_in old.recs) changed refl within numbered;
      key = ap (λ (rec : Rec). rec.key) same ∙ l.key;
      long = over_length 4 serial.text put.rec.body put.within ∙ ap (λ (rec : Rec). length rec.body) same ∙ l.long;
      text = record {
        security = l.text.security;
        rest = l.text.rest;
        spelled = body;
        serial = lawful;
        numbers = l.text.numbers;
        inside = l.text.inside;
      };
    }

pub found : (track : Track) → HasLabel track → position (λ rec. rec.r == 3) track.recs ≡ Some (place_in track.recs)
found track h = ap (λ (b : Bool). if b then Some (place_in track.recs) else None) (lt-ltb (place_in track.recs) (length track.recs) (label_within track h))

pub none_found : (track : Track) → HasLabel track → position (λ rec. rec.r == 3) track.recs ≡ None → ⊥
none_found track h e = let s : Some (place_in track.recs) ≡ None = sym (found track h) ∙ e in cc

pub place_found : (track : Track) (place : ℕ) → HasLabel track → position (λ rec. rec.r == 3) track.recs ≡ Some place → place ≡ place_in track.recs
place_found track place h e = let s : Some place ≡ Some (place_in track.recs) = sym e ∙ found track h in cc

pub room_found : (track : Track) (place : ℕ) (text : List ℕ) → HasLabel track → position (λ rec. rec.r == 3) track.recs ≡ Some place → length text ≡ 6
    → 4 + length text ≤ length (slice_index_or (map (λ rec. rec.body) track.recs) place [])
room_found track place text h e six =
    subst (λ (at : ℕ). 4 + length text ≤ length (slice_index_or (map (λ rec. rec.body) track.recs) at [])) (sym (place_found track place h e)) (omega (arith, six, label_room track h))

pub serial_put : (serial : Serial) (old new : Track) (place : ℕ) (text : List ℕ) → place ≡ place_in old.recs → text ≡ serial.text → IsBodyPut place 4 text old new → IsSerialPut serial old new
serial_put serial old new place text at same put =
    subst (λ (from : ℕ). IsBodyPut from 4 serial.text old new) at (subst (λ (bytes : List ℕ). IsBodyPut place 4 bytes old new) same put)
