-- The text of a track of which some records get other bytes.
use Rattle.std.proofs.Common.{◌≡◌, ◌≢◌, inl, inr, ℕ, suc, ◌-◌, ◌*◌, ◌≤◌, List, [], ◌∷◌, ◌++◌, length, map, replicate, All, Any, Bool, Option, Some, None, refl, sym, ap, subst, ◌∙◌, arith, length-append}
use Rattle.std.specs.Prelude.{◌==◌, ◌&&◌, cond}
use Rattle.std.specs.List.{AllByRecursion}
use Rattle.std.proofs.lemmas.Bool.{cases_Bool, eqb-true}
use Rattle.std.proofs.lemmas.List.{length-map}
use Rattle.std.proofs.lemmas.List.Elements.{recursion_from_All, All-from_recursion}
use Rattle.ckd_image.specs.declared.track.Rec.{Rec}
use Rattle.ckd_image.specs.declared.track.Track.{Track}
use Rattle.ckd_image.specs.declared.track.TrackAt.{TrackAt}
use Rattle.ckd_image.specs.declared.device.Device.{Device}
use Rattle.ckd_image.specs.Address.{address_of}
use Rattle.ckd_image.specs.Bytes.{Begins}
use Rattle.ckd_image.specs.Device.{heads_of, slot_of}
use Rattle.ckd_image.specs.Track.{IsRecord, IsTrack, IsTrackText, records_text, home_text, zero_text, end_mark, track_text}
use Rattle.volume_model.specs.declared.place.Placed.{Placed}
use Rattle.volume_model.specs.Sound.{IsDscbRecord}
use Rattle.volume_model.proofs.DscbRecords.{long_records}
use Rattle.ckd_image.proofs.OneText.{one_text}
use Rattle.vtoc_write.specs.Written.{IsDscbText, IsRewritten}
use Rattle.vtoc_write.specs.Edited.{edit_of, NamesTrack, rec_with, rec_after, text_after, written}
use Rattle.ckd_image.proofs.Devices.{is_address, short_slot}

-- ---- no edit of a track

here : (P : Placed → Type 0) (x : Placed) (xs : List Placed) → P x → Any P (x ∷ xs)
here P x xs p = (0, x, omega arith, refl, p)

later : (P : Placed → Type 0) (x : Placed) (xs : List Placed) → Any P xs → Any P (x ∷ xs)
later P x xs (k, y, less, is, p) = (suc k, y, omega (arith, less), is, p)

none_named : (edits : List Placed) (track r : ℕ) → ¬ NamesTrack edits track → edit_of edits (record { track = track; record_number = r }) ≡ None
none_named [] track r h = refl
none_named (edit ∷ edits) track r h =
    elim (cases_Bool (edit.place.track == track)) [
      | inl same ↦ absurd (h (here (λ x. x.place.track ≡ track) edit edits (eqb-true edit.place.track track same)))
      | inr other ↦
          ap (λ (b : Bool). cond (b && (edit.place.record_number == r)) (Some edit) (edit_of edits (record { track = track; record_number = r }))) other
          ∙ none_named edits track r (λ any. h (later (λ x. x.place.track ≡ track) edit edits any))
    ]

map_same : {X : Type 0} (f : X → X) (xs : List X) → ((x : X) → f x ≡ x) → map f xs ≡ xs
map_same f [] h = refl
map_same f (x ∷ xs) h = λ i. h x i ∷ map_same f xs h i

-- a text stays where its records do
pub same_text : (edits : List Placed) (track : ℕ) (text : Track) → map (rec_after edits track) text.recs ≡ text.recs → text_after edits track text ≡ text
same_text edits track text same = λ i. record { flag = text.flag; r0 = text.r0; recs = same i }

pub unnamed_text : (edits : List Placed) (track : ℕ) (text : Track) → ¬ NamesTrack edits track → text_after edits track text ≡ text
unnamed_text edits track text none =
    same_text edits track text (map_same (rec_after edits track) text.recs (λ rec. ap (rec_with rec) (none_named edits track rec.r none)))

-- ---- edits of some records

pub number_kept : (rec : Rec) (found : Option Placed) → (rec_with rec found).r ≡ rec.r
number_kept rec None = refl
number_kept rec (Some edit) = refl

is_record_after : (rec : Rec) (found : Option Placed) → IsRecord rec → IsDscbRecord (rec_with rec found) → IsRecord (rec_with rec found)
is_record_after rec found is shaped = record {
  numbered = omega (arith, number_kept rec found, is.numbered);
  number_fits = omega (arith, number_kept rec found, is.number_fits);
  key_fits = omega (arith, shaped.0);
  body_fits = omega (arith, shaped.1);
}

are_records_after : (edits : List Placed) (track : ℕ) (recs : List Rec) → AllByRecursion IsRecord recs → AllByRecursion IsDscbRecord (map (rec_after edits track) recs)
    → AllByRecursion IsRecord (map (rec_after edits track) recs)
are_records_after edits track [] is shaped = tt
are_records_after edits track (rec ∷ recs) is shaped = (
  is_record_after rec (edit_of edits (record { track = track; record_number = rec.r })) is.0 shaped.0,
  are_records_after edits track recs is.1 shaped.1,
)

pub sound_after : (edits : List Placed) (track : ℕ) (text : Track) → IsTrack text → All IsDscbRecord (map (rec_after edits track) text.recs) → IsTrack (text_after edits track text)
sound_after edits track text sound shaped = record {
  zero = sound.zero;
  records = All-from_recursion IsRecord (map (rec_after edits track) text.recs)
      (are_records_after edits track text.recs (recursion_from_All IsRecord text.recs sound.records) (recursion_from_All IsDscbRecord (map (rec_after edits track) text.recs) shaped));
}

same_long : (a b r s e : List ℕ) → length r ≡ length s → length (a ++ b ++ r ++ e) ≡ length (a ++ b ++ s ++ e)
same_long a b r s e same = omega (arith, length-append (a ++ b ++ r) e, length-append (a ++ b) r, length-append (a ++ b ++ s) e, length-append (a ++ b) s, same)

-- the text stays as long as it was
pub long_after : (edits : List Placed) (track : ℕ) (at : TrackAt) (text : Track) → All IsDscbRecord text.recs → All IsDscbRecord (map (rec_after edits track) text.recs)
    → length (track_text at (text_after edits track text)) ≡ length (track_text at text)
long_after edits track at text shaped after =
    same_long (home_text at text.flag) (zero_text at text.r0) (records_text at new) (records_text at text.recs) end_mark
    (long_records at new (recursion_from_All IsDscbRecord new after) ∙ ap (λ (n : ℕ). 148 * n) (length-map text.recs (rec_after edits track))
    ∙ sym (long_records at text.recs (recursion_from_All IsDscbRecord text.recs shaped)))
  where
    new : List Rec
    new = map (rec_after edits track) text.recs

pub front_within : (front bytes : List ℕ) → Begins front bytes → length front ≤ length bytes
front_within front bytes begins = omega (arith, ap length begins.1, length-append front begins.0)

-- ---- a slot that is written anew

module _ (edits : List Placed) (device : Device) (track : ℕ) (slot : List ℕ) (text : Track) (items recs : List Rec) (at : TrackAt) (heads : ℕ)
    (small : track ≤ 65535) (whole : length slot ≡ slot_of device) (dscbs : IsDscbText (address_of (heads_of device) track) slot)
    (at_is : at ≡ address_of heads track) (heads_are : heads ≡ heads_of device) (read : IsTrackText at slot text)
    (items_are : items ≡ text.recs) (edited : recs ≡ map (rec_after edits track) items) (shaped : All IsDscbRecord items → All IsDscbRecord recs) where
  abbrev home : TrackAt
  home = address_of (heads_of device) track

  at_home : at ≡ home
  at_home = at_is ∙ ap (λ (n : ℕ). address_of n track) heads_are

  stands : IsTrackText home slot text
  stands = subst (λ (t : TrackAt). IsTrackText t slot text) at_home read

  same : dscbs.text ≡ text
  same = one_text home slot dscbs.text text (is_address device track small) (omega (arith, whole, short_slot device)) dscbs.stands stands

  before : All IsDscbRecord text.recs
  before = subst (λ (t : Track). All IsDscbRecord t.recs) same dscbs.shaped

  recs_are : recs ≡ map (rec_after edits track) text.recs
  recs_are = edited ∙ ap (map (rec_after edits track)) items_are

  after : All IsDscbRecord (map (rec_after edits track) text.recs)
  after = subst (All IsDscbRecord) recs_are (shaped (subst (All IsDscbRecord) (sym items_are) before))

  abbrev new : Track
  new = record { flag = text.flag; r0 = text.r0; recs = recs }

  as_text : new ≡ text_after edits track text
  as_text = λ i. record { flag = text.flag; r0 = text.r0; recs = recs_are i }

  pub is_track : IsTrack new
  is_track = subst IsTrack (sym as_text) (sound_after edits track text stands.sound after)

  long : length (track_text at new) ≡ length (track_text home text)
  long = (λ i. length (track_text (at_home i) (as_text i))) ∙ long_after edits track home text before after

  pub fits_slot : length (track_text at new) ≤ slot_of device
  fits_slot = omega (arith, long, front_within (track_text home text) slot stands.text, whole)

  -- the slot that is written stands for the text with the edits made
  pub is_rewritten : (written_slot : List ℕ) → written_slot ≡ written at (slot_of device) new → Any (λ rec. rec_after edits track rec ≢ rec) text.recs
      → IsRewritten edits (heads_of device) track slot written_slot
  is_rewritten written_slot is changes = record {
    text = text;
    stands = stands;
    changes = changes;
    new_is = as_written;
    new_stands = record {
      sound = sound_after edits track text stands.sound after;
      text = (replicate (length slot - length (track_text home (text_after edits track text))) 0, as_written);
    };
    new_shaped = after;
  }
    where
      as_written : written_slot ≡ written home (length slot) (text_after edits track text)
      as_written = is ∙ (λ i. written (at_home i) (sym whole i) (as_text i))
