-- A slot spells one track text at most, however long it is: no record on a head that isn't numbered 65,535 begins as the end mark does.
use Rattle.std.proofs.Common.{◌≡◌, ℕ, ◌<◌, ◌/◌, ◌%◌, List, ◌++◌, length, refl, sym, ◌∙◌, append_assoc, arith}
use Rattle.ckd_image.specs.declared.device.Device.{Device}
use Rattle.ckd_image.specs.declared.device.Device.TheVariants.{D3390, D3380, D3350}
use Rattle.ckd_image.specs.declared.track.Rec.{Rec}
use Rattle.ckd_image.specs.declared.track.Track.{Track}
use Rattle.ckd_image.specs.declared.track.TrackAt.{TrackAt}
use Rattle.ckd_image.specs.Address.{address_of}
use Rattle.ckd_image.specs.Bytes.{Begins}
use Rattle.ckd_image.specs.Device.{heads_of}
use Rattle.ckd_image.specs.Track.{record_text, end_mark, IsRecord, IsTrackText}
use Rattle.ckd_image.proofs.Texts.{SelfDelimiting, texts_split}
use Rattle.ckd_image.proofs.OneText.{same_two, split_same, same_record, parts_of, same_track, same_front}

-- ---- records

record_apart : (at : TrackAt) (a b : Rec) (x y : List ℕ) → IsRecord a → IsRecord b → record_text at a ++ x ≡ record_text at b ++ y → (a ≡ b) × (x ≡ y)
record_apart at a b x y p q e =
    let number : a.r ≡ b.r = cc in
    let keys : length a.key ≡ length b.key = cc in
    let high : length a.body / 256 % 256 ≡ length b.body / 256 % 256 = cc in
    let low : length a.body % 256 ≡ length b.body % 256 = cc in
    let behind : (a.key ++ a.body) ++ x ≡ (b.key ++ b.body) ++ y = cc in
    let key = split_same a.key b.key (a.body ++ x) (b.body ++ y) keys (sym (append_assoc a.key a.body x) ∙ behind ∙ append_assoc b.key b.body y) in
    let body = split_same a.body b.body x y (same_two _ _ p.body_fits q.body_fits high low) key.1 in
    (same_record a b number key.0 body.0, body.1)

records_apart : (at : TrackAt) → SelfDelimiting (record_text at) IsRecord
records_apart at = record { apart = λ a b x y p q e. record_apart at a b x y p q e }

no_end_mark : (at : TrackAt) (rec : Rec) (x y : List ℕ) → at.head < 65535 → end_mark ++ x ≡ record_text at rec ++ y → ⊥
no_end_mark at rec x y low e =
    let high_byte : 255 ≡ at.head / 256 % 256 = cc in
    let low_byte : 255 ≡ at.head % 256 = cc in
    omega (arith, low)

-- ---- slots

-- a slot spells one track text at an address
abbrev pub SpellsOne : TrackAt → List ℕ → Type 0
SpellsOne at slot = (a b : Track) → IsTrackText at slot a → IsTrackText at slot b → a ≡ b

pub one_text : (at : TrackAt) (slot : List ℕ) (a b : Track) → at.head < 65535 → IsTrackText at slot a → IsTrackText at slot b → a ≡ b
one_text at slot a b low one other =
    let front =
    same_front at a.flag b.flag a.r0 b.r0 _ _ one.sound.zero other.sound.zero (sym (parts_of at a one.text.0) ∙ sym one.text.1 ∙ other.text.1 ∙ parts_of at b other.text.0) in
    let records =
    texts_split (record_text at) IsRecord (Begins end_mark) (records_apart at)
    (λ rec x p ends. no_end_mark at rec ends.0 x low (sym ends.1))
    a.recs b.recs (end_mark ++ one.text.0) (end_mark ++ other.text.0) one.sound.records other.sound.records (one.text.0, refl) (other.text.0, refl) front.2 in
    same_track a b front.0 front.1 records.0

-- a device has fewer heads
pub few_heads : (device : Device) → heads_of device < 65535
few_heads D3390 = omega arith
few_heads D3380 = omega arith
few_heads D3350 = omega arith

low_head : (device : Device) (track : ℕ) → track % heads_of device < 65535
low_head D3390 track = omega arith
low_head D3380 track = omega arith
low_head D3350 track = omega arith

pub one_text_on : (device : Device) (track : ℕ) (slot : List ℕ) (a b : Track) → IsTrackText (address_of (heads_of device) track) slot a
    → IsTrackText (address_of (heads_of device) track) slot b → a ≡ b
one_text_on device track slot a b one other = one_text (address_of (heads_of device) track) slot a b (low_head device track) one other
