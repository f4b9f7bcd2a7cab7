-- The tracks of a VTOC, once the edits are made.
use Rattle.std.proofs.Common.{◌≡◌, ◌≢◌, ℕ, zero, suc, ◌+◌, ◌≤◌, List, [], ◌∷◌, length, Option, Some, None, refl, sym, ap, subst, ◌∙◌, arith}
use Rattle.std.specs.Prelude.{slice_index_or}
use Rattle.ckd_image.specs.declared.device.Device.{Device}
use Rattle.ckd_image.specs.declared.track.Track.{Track}
use Rattle.ckd_image.specs.Address.{address_of}
use Rattle.ckd_image.specs.Device.{heads_of, slot_of}
use Rattle.ckd_image.specs.Track.{IsTrackText}
use Rattle.volume_model.specs.declared.place.Placed.{Placed}
use Rattle.volume_model.specs.Sound.{IsTrackReading}
use Rattle.vtoc_write.specs.declared.blocks.Block.{Block}
use Rattle.vtoc_write.specs.Edited.{dscbs_after, tracks_after, text_after}
use Rattle.vtoc_write.specs.Written.{slot_with, IsBlockFor}
use Rattle.vtoc_write.proofs.Tracks.{keeps_track}
use Rattle.volume_model.proofs.Addresses.{one_text_anywhere}
use Rattle.ckd_image.proofs.Devices.{short_slot}

abbrev Dscbs : Type 0
Dscbs = Option (List (List ℕ))

-- ---- what is read of the tracks

abbrev pub track_after : List Placed → ℕ → Dscbs → Dscbs
track_after edits track None = None
track_after edits track (Some dscbs) = Some (dscbs_after edits track 1 dscbs)

pub after_long : (edits : List Placed) (first : ℕ) (tracks : List Dscbs) → length (tracks_after edits first tracks) ≡ length tracks
after_long edits first [] = refl
after_long edits first (None ∷ tracks) = ap suc (after_long edits (first + 1) tracks)
after_long edits first (Some dscbs ∷ tracks) = ap suc (after_long edits (first + 1) tracks)

one_further : (edits : List Placed) (first k : ℕ) (dscbs : Dscbs) → track_after edits (first + 1 + k) dscbs ≡ track_after edits (first + suc k) dscbs
one_further edits first k dscbs = let same : first + 1 + k ≡ first + suc k = omega arith in ap (λ (track : ℕ). track_after edits track dscbs) same

same_first : (edits : List Placed) (first : ℕ) (dscbs : Dscbs) → track_after edits first dscbs ≡ track_after edits (first + 0) dscbs
same_first edits first dscbs = let same : first ≡ first + 0 = omega arith in ap (λ (track : ℕ). track_after edits track dscbs) same

pub after_each : (edits : List Placed) (first : ℕ) (tracks : List Dscbs) (k : ℕ) → slice_index_or (tracks_after edits first tracks) k None ≡ track_after edits (first + k) (slice_index_or tracks k None)
after_each edits first [] k = refl
after_each edits first (None ∷ tracks) zero = refl
after_each edits first (None ∷ tracks) (suc k) = after_each edits (first + 1) tracks k ∙ one_further edits first k (slice_index_or tracks k None)
after_each edits first (Some dscbs ∷ tracks) zero = same_first edits first (Some dscbs)
after_each edits first (Some dscbs ∷ tracks) (suc k) = after_each edits (first + 1) tracks k ∙ one_further edits first k (slice_index_or tracks k None)

-- ---- one track

module _ (edits : List Placed) (device : Device) (track : ℕ) (slot : List ℕ) (small : track ≤ 65535) (short : length slot ≤ slot_of device) where
  pub reading_after : (dscbs : Dscbs) (block : Option Block) → dscbs ≢ None → IsTrackReading (heads_of device) track slot dscbs → IsBlockFor edits (heads_of device) track slot block
      → IsTrackReading (heads_of device) track (slot_with slot block) (track_after edits track dscbs)
  reading_after None block some is for = absurd (some refl)
  reading_after (Some dscbs) block some is for = keeps_track edits device track slot dscbs small short is block for

  one : (a b : Track) → IsTrackText (address_of (heads_of device) track) slot a → IsTrackText (address_of (heads_of device) track) slot b → a ≡ b
  one a b = one_text_anywhere (address_of (heads_of device) track) slot a b (omega (arith, short, short_slot device))

  pub text_then : (text : Track) (block : Option Block) → IsTrackText (address_of (heads_of device) track) slot text → IsBlockFor edits (heads_of device) track slot block
      → IsTrackText (address_of (heads_of device) track) (slot_with slot block) (text_after edits track text)
  text_then text None stands for =
      let same : for.text ≡ text = one for.text text for.stands stands in
      subst (IsTrackText (address_of (heads_of device) track) slot) (sym (ap (text_after edits track) (sym same) ∙ for.same)) for.stands
  text_then text (Some block) stands for =
      subst (λ (t : Track). IsTrackText (address_of (heads_of device) track) block.slot (text_after edits track t)) (one for.text text for.stands stands) for.new_stands
