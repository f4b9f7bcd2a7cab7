-- The tracks of a VTOC and their records, once some records have other bytes.
use Rattle.std.proofs.Common.{◌≡◌, ℕ, suc, ◌+◌, ◌<◌, ◌≤◌, List, [], ◌∷◌, ◌++◌, length, map, All, Option, Some, None, refl, sym, ap, subst, ◌∙◌, arith}
use Rattle.std.specs.Prelude.{slice_index}
use Rattle.std.proofs.lemmas.List.{length-map, take-append-drop}
use Rattle.ckd_image.specs.declared.device.Device.{Device}
use Rattle.ckd_image.specs.declared.track.Rec.{Rec}
use Rattle.ckd_image.specs.declared.track.Track.{Track}
use Rattle.ckd_image.specs.Address.{address_of}
use Rattle.ckd_image.specs.Device.{heads_of, slot_of}
use Rattle.ckd_image.specs.Track.{IsTrackText}
use Rattle.ckd_image.proofs.OneText.{one_text}
use Rattle.volume_model.specs.declared.place.Place.{Place}
use Rattle.volume_model.specs.declared.place.Placed.{Placed}
use Rattle.volume_model.specs.Directory.{placed_from, placed_in}
use Rattle.volume_model.specs.Sound.{IsDscbRecord, dscb_of, IsVtocTrack}
use Rattle.vtoc_write.specs.declared.blocks.Block.{Block}
use Rattle.vtoc_write.specs.Edited.{edit_of, placed_with, after_edits, bytes_with, dscbs_after, tracks_after, rec_with, rec_after, text_after}
use Rattle.vtoc_write.specs.Written.{slot_with, IsUnchangedText, IsRewritten, IsBlockFor}
use Rattle.vtoc_write.proofs.Texts.{number_kept}
use Rattle.ckd_image.proofs.Devices.{is_address, short_slot}

-- ---- records

bytes_are : (rec : Rec) (found : Option Placed) → dscb_of (rec_with rec found) ≡ bytes_with (dscb_of rec) found
bytes_are rec None = refl
bytes_are rec (Some edit) = take-append-drop 44 edit.bytes

-- the DSCBs of records that are numbered in order
dscbs_are : (edits : List Placed) (track n : ℕ) (recs : List Rec) → ((k : ℕ) → k < length recs → slice_index (map (λ rec. rec.r) recs) k ≡ n + k)
    → map dscb_of (map (rec_after edits track) recs) ≡ dscbs_after edits track n (map dscb_of recs)
dscbs_are edits track n [] numbered = refl
dscbs_are edits track n (rec ∷ recs) numbered =
    λ i. first i ∷ dscbs_are edits track (n + 1) recs (λ k less. omega (arith, numbered (suc k) (omega (arith, less)))) i
  where
    is : rec.r ≡ n
    is = omega (arith, numbered 0 (omega arith))

    first : dscb_of (rec_after edits track rec) ≡ bytes_with (dscb_of rec) (edit_of edits (record { track = track; record_number = n }))
    first = bytes_are rec (edit_of edits (record { track = track; record_number = rec.r }))
        ∙ ap (λ (r : ℕ). bytes_with (dscb_of rec) (edit_of edits (record { track = track; record_number = r }))) is

numbers_kept : (edits : List Placed) (track : ℕ) (recs : List Rec) → map (λ rec. rec.r) (map (rec_after edits track) recs) ≡ map (λ rec. rec.r) recs
numbers_kept edits track [] = refl
numbers_kept edits track (rec ∷ recs) = λ i. number_kept rec (edit_of edits (record { track = track; record_number = rec.r })) i ∷ numbers_kept edits track recs i

-- ---- one track

module _ (edits : List Placed) (device : Device) (track : ℕ) (slot : List ℕ) (dscbs : List (List ℕ)) (small : track ≤ 65535) (short : length slot ≤ slot_of device)
    (is : IsVtocTrack (heads_of device) track slot dscbs) where
  one : (text : Track) → IsTrackText (address_of (heads_of device) track) slot text → is.text ≡ text
  one text stands =
      one_text (address_of (heads_of device) track) slot is.text text (is_address device track small) (omega (arith, short, short_slot device)) is.stands stands

  dscbs_then : map dscb_of (map (rec_after edits track) is.text.recs) ≡ dscbs_after edits track 1 dscbs
  dscbs_then =
      dscbs_are edits track 1 is.text.recs (λ k less. omega (arith, is.numbered k less)) ∙ ap (dscbs_after edits track 1) (sym is.dscbs_are)

  -- a slot with the text of the edits is such a track
  edited : (new : List ℕ) → IsTrackText (address_of (heads_of device) track) new (text_after edits track is.text) → All IsDscbRecord (map (rec_after edits track) is.text.recs)
      → IsVtocTrack (heads_of device) track new (dscbs_after edits track 1 dscbs)
  edited new stands shaped = record {
    text = text_after edits track is.text;
    stands = stands;
    some = omega (arith, is.some, length-map is.text.recs (rec_after edits track));
    numbered = λ k less.
        ap (λ (ns : List ℕ). slice_index ns k) (numbers_kept edits track is.text.recs) ∙ is.numbered k (omega (arith, less, length-map is.text.recs (rec_after edits track)));
    shaped = shaped;
    dscbs_are = sym dscbs_then;
  }

  unchanged : IsUnchangedText edits (heads_of device) track slot → IsVtocTrack (heads_of device) track slot (dscbs_after edits track 1 dscbs)
  unchanged h =
      edited slot (subst (IsTrackText (address_of (heads_of device) track) slot) (sym stays) is.stands)
      (subst (All IsDscbRecord) (sym (ap (λ (t : Track). t.recs) stays)) is.shaped)
    where
      stays : text_after edits track is.text ≡ is.text
      stays = ap (text_after edits track) (one h.text h.stands) ∙ h.same ∙ sym (one h.text h.stands)

  rewritten : (new : List ℕ) → IsRewritten edits (heads_of device) track slot new → IsVtocTrack (heads_of device) track new (dscbs_after edits track 1 dscbs)
  rewritten new as_new =
      edited new (subst (λ (t : Track). IsTrackText (address_of (heads_of device) track) new (text_after edits track t)) (sym (one as_new.text as_new.stands)) as_new.new_stands)
      (subst (λ (t : Track). All IsDscbRecord (map (rec_after edits track) t.recs)) (sym (one as_new.text as_new.stands)) as_new.new_shaped)

  pub keeps_track : (block : Option Block) → IsBlockFor edits (heads_of device) track slot block
      → IsVtocTrack (heads_of device) track (slot_with slot block) (dscbs_after edits track 1 dscbs)
  keeps_track None h = unchanged h
  keeps_track (Some block) h = rewritten block.slot h

-- ---- the records of all tracks

placed_bytes : (edits : List Placed) (place : Place) (bytes : List ℕ) (found : Option Placed)
    → (record { place = place; bytes = bytes_with bytes found }) ≡ placed_with (record { place = place; bytes = bytes }) found
placed_bytes edits place bytes None = refl
placed_bytes edits place bytes (Some edit) = refl

on_track : (edits : List Placed) (track n : ℕ) (dscbs : List (List ℕ)) → placed_from track n (dscbs_after edits track n dscbs) ≡ after_edits edits (placed_from track n dscbs)
on_track edits track n [] = refl
on_track edits track n (bytes ∷ more) =
    λ i. placed_bytes edits (record { track = track; record_number = n }) bytes (edit_of edits (record { track = track; record_number = n })) i ∷ on_track edits track (n + 1) more i

map_both : {X Y : Type 0} (f : X → Y) (xs ys : List X) → map f (xs ++ ys) ≡ map f xs ++ map f ys
map_both f [] ys = refl
map_both f (x ∷ xs) ys = ap (λ (l : List _). f x ∷ l) (map_both f xs ys)

pub keeps_places : (edits : List Placed) (first : ℕ) (tracks : List (Option (List (List ℕ)))) → placed_in first (tracks_after edits first tracks) ≡ after_edits edits (placed_in first tracks)
keeps_places edits first [] = refl
keeps_places edits first (None ∷ tracks) = keeps_places edits (first + 1) tracks
keeps_places edits first (Some dscbs ∷ tracks) =
    (λ i. on_track edits first 1 dscbs i ++ keeps_places edits (first + 1) tracks i)
    ∙ sym (map_both (λ placed. placed_with placed (edit_of edits placed.place)) (placed_from first 1 dscbs) (placed_in (first + 1) tracks))
