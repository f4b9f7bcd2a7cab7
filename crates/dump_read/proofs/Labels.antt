-- A slot holds one track, and so one label at most and one record that it names.
use Rattle.std.proofs.Common.{◌≡◌, ◌≢◌, ℕ, ◌+◌, ◌-◌, ◌*◌, ◌==◌, ◌≤◌, ◌<◌, List, ◌++◌, length, take, drop, replicate, find, Some, None, sym, ap, subst, ◌∙◌, arith, length-append}
use Rattle.std.proofs.lemmas.List.{take_at, length-replicate}
use Rattle.std.proofs.lemmas.Option.{same_Some}
use Rattle.ckd_image.specs.declared.device.Device.{Device}
use Rattle.ckd_image.specs.declared.device.Device.TheVariants.{D3390, D3380, D3350}
use Rattle.ckd_image.specs.declared.head.Head.{Head}
use Rattle.ckd_image.specs.declared.track.Rec.{Rec}
use Rattle.ckd_image.specs.declared.track.Track.{Track as Text}
use Rattle.ckd_image.specs.Address.{address_of, IsAddress}
use Rattle.ckd_image.specs.Device.{heads_of, slot_of}
use Rattle.ckd_image.specs.Track.{IsTrackText}
use Rattle.ckd_image.proofs.OneText.{one_text}
use Rattle.vol_label.specs.declared.label.Label.{Label}
use Rattle.vol_label.specs.Label.{IsFirstNumbered, IsLabel}
use Rattle.vol_label.proofs.OneLabel.{one_label}
use Rattle.dump_fmt.specs.declared.piece.DumpHead.{DumpHead}
use Rattle.dump_fmt.specs.Front.{filled_slot}
use Rattle.dump_read.specs.Labelled.{IsLabelSlot, IsFormat4, IsFormat4Slot}
use Rattle.dump_read.proofs.Chains.{put_filled}

pub slot_filled : (new piece old behind : List ℕ) (n m len : ℕ) → n ≡ 0 + length piece → take n new ≡ piece → drop n new ≡ drop n old → old ≡ replicate m 0 → length new ≡ len
    → take len (new ++ behind) ≡ piece ++ replicate (m - length piece) 0
slot_filled new piece old behind n m len is front last zeros long =
    take_at new behind len long ∙ put_filled new piece n m 0 is front (last ∙ ap (drop n) zeros)

-- ---- one track

short_address : (device : Device) (number : ℕ) → number < 65535 → IsAddress (address_of (heads_of device) number)
short_address D3390 number few = (omega (arith, few), omega (arith, few))
short_address D3380 number few = (omega (arith, few), omega (arith, few))
short_address D3350 number few = (omega (arith, few), omega (arith, few))

pub short_filled : (device : Device) (bytes : List ℕ) → length bytes ≤ slot_of device → length (filled_slot device bytes) ≤ 65536
short_filled device bytes short =
    let zeros : List ℕ = replicate (slot_of device - length bytes) 0 in
    omega (arith, short, short_slot device, length-append bytes zeros, length-replicate {A = ℕ} (slot_of device - length bytes) 0)
  where
    short_slot : (device : Device) → slot_of device ≤ 56832
    short_slot D3390 = omega arith
    short_slot D3380 = omega arith
    short_slot D3350 = omega arith

pub one_track : (device : Device) (number : ℕ) (bytes : List ℕ) (a b : Text) → length bytes ≤ slot_of device → number < 65535
    → IsTrackText (address_of (heads_of device) number) (filled_slot device bytes) a → IsTrackText (address_of (heads_of device) number) (filled_slot device bytes) b → a ≡ b
one_track device number bytes a b short few one other =
    one_text (address_of (heads_of device) number) (filled_slot device bytes) a b (short_address device number few) (short_filled device bytes short) one other

-- ---- one label

abbrev pub volume_of : DumpHead → Head
volume_of head = record { device = head.device; tracks = head.tracks }

pub no_label_there : (head : DumpHead) (bytes : List ℕ) (track : Text) → length bytes ≤ slot_of head.device → IsTrackText (address_of (heads_of head.device) 0) (filled_slot head.device bytes) track
    → ((label : Label) → ¬ IsLabel (volume_of head) track.recs label) → (label : Label) → ¬ IsLabelSlot head bytes label
no_label_there head bytes track short text none label is =
    none label (subst (λ (t : Text). IsLabel (volume_of head) t.recs label) (one_track head.device 0 bytes is.track track short (omega arith) is.text text) is.label_there)

pub other_pointer : (head : DumpHead) (bytes : List ℕ) (track : Text) (found : Label) → length bytes ≤ slot_of head.device
    → IsTrackText (address_of (heads_of head.device) 0) (filled_slot head.device bytes) track → IsLabel (volume_of head) track.recs found
    → found.vtoc.at.cylinder * heads_of head.device + found.vtoc.at.head ≢ head.vtoc → (label : Label) → ¬ IsLabelSlot head bytes label
other_pointer head bytes track found short text there other label is =
    let here : IsLabel (volume_of head) track.recs label =
    subst (λ (t : Text). IsLabel (volume_of head) t.recs label) (one_track head.device 0 bytes is.track track short (omega arith) is.text text) is.label_there in
    let same : label ≡ found = one_label (volume_of head) track.recs label found here there in
    other (subst (λ (l : Label). l.vtoc.at.cylinder * heads_of head.device + l.vtoc.at.head ≡ head.vtoc) same is.pointer)

-- ---- the record that it names

pub no_record : (head : DumpHead) (label : Label) (bytes : List ℕ) (track : Text) → length bytes ≤ slot_of head.device → head.vtoc < 65535
    → IsTrackText (address_of (heads_of head.device) head.vtoc) (filled_slot head.device bytes) track → find (λ x. x.r == label.vtoc.r) track.recs ≡ None → ¬ IsFormat4Slot head label bytes
no_record head label bytes track short few text none is =
    let here : IsFirstNumbered label.vtoc.r track.recs is.rec =
    subst (λ (t : Text). IsFirstNumbered label.vtoc.r t.recs is.rec) (one_track head.device head.vtoc bytes is.track track short few is.text text) is.numbered in
    let both : None ≡ Some is.rec = sym none ∙ here in
    cc

pub format_4_there : (head : DumpHead) (label : Label) (bytes : List ℕ) (track : Text) (rec : Rec) → IsTrackText (address_of (heads_of head.device) head.vtoc) (filled_slot head.device bytes) track
    → IsFirstNumbered label.vtoc.r track.recs rec → IsFormat4 rec → IsFormat4Slot head label bytes
format_4_there head label bytes track rec text numbered is = record { track = track; rec = rec; text = text; numbered = numbered; key = is.key; body = is.body; format = is.format }

pub format_4_of : (head : DumpHead) (label : Label) (bytes : List ℕ) (track : Text) (rec : Rec) → length bytes ≤ slot_of head.device → head.vtoc < 65535
    → IsTrackText (address_of (heads_of head.device) head.vtoc) (filled_slot head.device bytes) track → IsFirstNumbered label.vtoc.r track.recs rec → IsFormat4Slot head label bytes → IsFormat4 rec
format_4_of head label bytes track rec short few text numbered is =
    let here : IsFirstNumbered label.vtoc.r track.recs is.rec =
    subst (λ (t : Text). IsFirstNumbered label.vtoc.r t.recs is.rec) (one_track head.device head.vtoc bytes is.track track short few is.text text) is.numbered in
    subst IsFormat4 (same_Some is.rec rec (sym here ∙ numbered)) (record { key = is.key; body = is.body; format = is.format })
