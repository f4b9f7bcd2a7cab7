-- A slot spells one track text at most, at any address, and at one address.
use Rattle.std.proofs.Common.{◌≡◌, ℕ, ◌+◌, ◌*◌, ◌/◌, ◌%◌, ◌≤◌, List, [], ◌∷◌, ◌++◌, length, refl, ap, sym, ◌∙◌, arith}
use Rattle.std.specs.List.{flat_map}
use Rattle.ckd_image.specs.declared.device.Device.{Device}
use Rattle.ckd_image.specs.declared.device.Device.TheVariants.{D3390, D3380, D3350}
use Rattle.ckd_image.specs.declared.track.Rec.{Rec}
use Rattle.ckd_image.specs.declared.track.Track.{Track}
use Rattle.ckd_image.specs.declared.track.TrackAt.{TrackAt}
use Rattle.ckd_image.specs.Address.{address, IsAddress}
use Rattle.ckd_image.specs.Device.{heads_of}
use Rattle.ckd_image.specs.Track.{end_mark, track_text, IsTrackText}
use Rattle.ckd_image.proofs.OneText.{one_text, same_two}
use Rattle.ckd_image.proofs.Records.{same_address}
use Rattle.volume_model.specs.Space.{track_at}
use Rattle.volume_model.proofs.OneText.{SpellsOne}

-- ---- an address as its bytes have it

abbrev as_spelled : TrackAt → TrackAt
as_spelled at = record { cylinder = at.cylinder % 65536; head = at.head % 65536 }

high_byte : (n : ℕ) → n / 256 % 256 ≡ n % 65536 / 256 % 256
high_byte n = omega arith

low_byte : (n : ℕ) → n % 256 ≡ n % 65536 % 256
low_byte n = omega arith

same_spelling : (at : TrackAt) → address at ≡ address (as_spelled at)
same_spelling at = λ i. high_byte at.cylinder i ∷ low_byte at.cylinder i ∷ high_byte at.head i ∷ low_byte at.head i ∷ []

-- a track text, by the bytes of its address
abbrev text_by : List ℕ → Track → List ℕ
text_by bytes track =
    (track.flag ∷ bytes) ++ ((bytes ++ (0 ∷ 0 ∷ 0 ∷ 8 ∷ [])) ++ track.r0)
    ++ flat_map (λ (rec : Rec). (bytes ++ (rec.r ∷ length rec.key ∷ length rec.body / 256 % 256 ∷ length rec.body % 256 ∷ [])) ++ rec.key ++ rec.body) track.recs ++ end_mark

same_track_text : (at : TrackAt) (track : Track) → track_text at track ≡ track_text (as_spelled at) track
same_track_text at track = ap (λ (bytes : List ℕ). text_by bytes track) (same_spelling at)

spelled : (at : TrackAt) (slot : List ℕ) (track : Track) → IsTrackText at slot track → IsTrackText (as_spelled at) slot track
spelled at slot track is = record {
  sound = is.sound;
  text = (is.text.0, is.text.1 ∙ ap (λ (front : List ℕ). front ++ is.text.0) (same_track_text at track));
}

pub one_text_anywhere : (at : TrackAt) (slot : List ℕ) (a b : Track) → length slot ≤ 65536 → IsTrackText at slot a → IsTrackText at slot b → a ≡ b
one_text_anywhere at slot a b short one other =
    one_text (as_spelled at) slot a b (omega arith, omega arith) short (spelled at slot a one) (spelled at slot b other)

pub short_spells : (at : TrackAt) (slot : List ℕ) → length slot ≤ 65536 → SpellsOne at slot
short_spells at slot short a b one other = one_text_anywhere at slot a b short one other

-- ---- one address

pub one_address : (a b : TrackAt) (slot : List ℕ) (s t : Track) → IsAddress a → IsAddress b → IsTrackText a slot s → IsTrackText b slot t → a ≡ b
one_address a b slot s t p q one other =
    let same : track_text a s ++ one.text.0 ≡ track_text b t ++ other.text.0 = sym one.text.1 ∙ other.text.1 in
    let c1 : a.cylinder / 256 % 256 ≡ b.cylinder / 256 % 256 = cc in
    let c0 : a.cylinder % 256 ≡ b.cylinder % 256 = cc in
    let h1 : a.head / 256 % 256 ≡ b.head / 256 % 256 = cc in
    let h0 : a.head % 256 ≡ b.head % 256 = cc in
    same_address a b (same_two _ _ p.0 q.0 c1 c0) (same_two _ _ p.1 q.1 h1 h0)

-- the address of a track of an image fits its bytes
pub address_fits : (device : Device) (at : TrackAt) → track_at (heads_of device) at ≤ 65535 → IsAddress at
address_fits D3390 at small = (omega (arith, small), omega (arith, small))
address_fits D3380 at small = (omega (arith, small), omega (arith, small))
address_fits D3350 at small = (omega (arith, small), omega (arith, small))
