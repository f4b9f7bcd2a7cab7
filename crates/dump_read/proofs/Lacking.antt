-- A slot that lacks label or format 4 is one of no dump.
use Rattle.std.proofs.Common.{◌≡◌, inl, inr, ℕ, ◌+◌, ◌*◌, ◌<◌, List, [], ◌∷◌, ◌++◌, length, All, Some, refl, sym, ap, subst, ◌∙◌, arith, length-append}
use Rattle.std.specs.Prelude.{slice_get}
use Rattle.std.proofs.lemmas.List.Elements.{All-head}
use Rattle.std.proofs.lemmas.Option.{none-some}
use Rattle.ckd_image.specs.declared.device.Device.{Device}
use Rattle.ckd_image.specs.declared.head.Head.{Head}
use Rattle.ckd_image.specs.declared.track.Track.{Track as Text}
use Rattle.ckd_image.specs.Address.{address_of}
use Rattle.ckd_image.specs.Device.{heads_of}
use Rattle.ckd_image.specs.Track.{IsTrackText}
use Rattle.vol_label.specs.declared.label.Label.{Label}
use Rattle.vol_label.specs.Label.{IsFirstNumbered, IsLabel}
use Rattle.vol_label.proofs.OneLabel.{one_label}
use Rattle.dump_fmt.specs.declared.piece.DumpHead.{DumpHead}
use Rattle.dump_fmt.specs.Front.{Front, IsCutSlot, IsFull, HoldsTrack, HasLabel, HasFormat4, filled_slot}
use Rattle.dump_read.specs.Faults.{LacksRecord}
use Rattle.dump_read.specs.Labelled.{IsLabelSlot, IsFormat4Slot}
use Rattle.dump_read.proofs.Labels.{volume_of, one_track}

-- ---- what slots hold goes by device, tracks and the track of the format 4

module _ (head other : DumpHead) (device : head.device ≡ other.device) (tracks : head.tracks ≡ other.tracks) (vtoc : head.vtoc ≡ other.vtoc) where
  same_volume : volume_of head ≡ volume_of other
  same_volume =
      ap (λ (d : Device). let h : Head = record { device = d; tracks = head.tracks } in h) device ∙ ap (λ (n : ℕ). let h : Head = record { device = other.device; tracks = n } in h) tracks

  pub label_alike : (slots : List (List ℕ)) (label : Label) → HasLabel other slots label → HasLabel head slots label
  label_alike slots label is = record {
    track = is.track;
    holds = subst (λ (d : Device). HoldsTrack d slots 0 is.track) (sym device) is.holds;
    label_there = subst (λ (h : Head). IsLabel h is.track.recs label) (sym same_volume) is.label_there;
    pointer = ap (λ (d : Device). label.vtoc.at.cylinder * heads_of d + label.vtoc.at.head) device ∙ is.pointer ∙ sym vtoc;
  }

  pub format_4_alike : (slots : List (List ℕ)) → HasFormat4 other slots → HasFormat4 head slots
  format_4_alike slots is = record {
    label = is.label;
    track = is.track;
    rec = is.rec;
    named = label_alike slots is.label is.named;
    holds = subst (λ (d : Device). HoldsTrack d slots head.vtoc is.track) (sym device) (subst (λ (n : ℕ). HoldsTrack other.device slots n is.track) (sym vtoc) is.holds);
    numbered = is.numbered;
    key = is.key;
    body = is.body;
    format = is.format;
  }

  pub full_alike : (front : Front) → IsFull other front → IsFull head front
  full_alike front is = record {
    no_parts = is.no_parts;
    no_current = is.no_current;
    slots = subst (λ (d : Device). All (IsCutSlot d) front.slots) (sym device) is.slots;
    few = omega (arith, is.few, tracks);
    labelled = λ some. let (label, has) = is.labelled some in (label, label_alike front.slots label has);
    format_4 = λ some. format_4_alike front.slots (is.format_4 (omega (arith, some, vtoc)));
  }

-- ---- slots that are there

get_behind : (slots later : List (List ℕ)) (slot : List ℕ) → slice_get (slots ++ slot ∷ later) (length slots) ≡ Some slot
get_behind [] later slot = refl
get_behind (x ∷ slots) later slot = get_behind slots later slot

same_slot : (a b : List ℕ) → Some a ≡ Some b → a ≡ b
same_slot a b e = cc

-- a slot holds one track
one_held : (head : DumpHead) (slots : List (List ℕ)) (number : ℕ) (bytes : List ℕ) (track : Text) → slice_get slots number ≡ Some bytes → HoldsTrack head.device slots number track
    → IsTrackText (address_of (heads_of head.device) number) (filled_slot head.device bytes) track
one_held head slots number bytes track there is =
    subst (λ (b : List ℕ). IsTrackText (address_of (heads_of head.device) number) (filled_slot head.device b) track) (same_slot is.bytes bytes (sym is.there ∙ there)) is.text

-- slots have one label, however many stand behind them
labels_same : (head : DumpHead) (slots later : List (List ℕ)) (a b : Label) → All (IsCutSlot head.device) (slots ++ later) → HasLabel head slots a → HasLabel head (slots ++ later) b → a ≡ b
labels_same head [] later a b cut is also = absurd (none-some is.holds.bytes is.holds.there)
labels_same head (slot ∷ slots) later a b cut is also =
    let short : IsCutSlot head.device slot = All-head (IsCutSlot head.device) slot (slots ++ later) cut in
    let first = one_held head (slot ∷ slots) 0 slot is.track refl is.holds in
    let second = one_held head (slot ∷ (slots ++ later)) 0 slot also.track refl also.holds in
    let track : also.track ≡ is.track = one_track head.device 0 slot also.track is.track short.0 (omega arith) second first in
    one_label (volume_of head) is.track.recs a b is.label_there (subst (λ (t : Text). IsLabel (volume_of head) t.recs b) track also.label_there)

-- ---- none of them lacks a record

some_there : (slots later : List (List ℕ)) (slot : List ℕ) → length slots < length (slots ++ slot ∷ later)
some_there slots later slot = omega (arith, length-append slots (slot ∷ later))

lacks_no_label : (head : DumpHead) (slots later : List (List ℕ)) (bytes : List ℕ) → slots ≡ [] → ((label : Label) → HasLabel head (slots ++ bytes ∷ later) label → IsLabelSlot head bytes label)
lacks_no_label head slots later bytes none label is =
    let there : slice_get (slots ++ bytes ∷ later) 0 ≡ Some bytes = ap (λ (s : List (List ℕ)). slice_get (s ++ bytes ∷ later) 0) none in
    record { track = is.track; text = one_held head (slots ++ bytes ∷ later) 0 bytes is.track there is.holds; label_there = is.label_there; pointer = is.pointer }

lacks_no_format : (head : DumpHead) (slots later : List (List ℕ)) (bytes : List ℕ) (label : Label) → All (IsCutSlot head.device) (slots ++ bytes ∷ later) → length slots ≡ head.vtoc → HasLabel head slots label
    → HasFormat4 head (slots ++ bytes ∷ later) → IsFormat4Slot head label bytes
lacks_no_format head slots later bytes label cut at has is =
    let same : is.label ≡ label = sym (labels_same head slots (bytes ∷ later) label is.label cut has is.named) in
    let there : slice_get (slots ++ bytes ∷ later) head.vtoc ≡ Some bytes = subst (λ (n : ℕ). slice_get (slots ++ bytes ∷ later) n ≡ Some bytes) at (get_behind slots later bytes) in
    record {
      track = is.track;
      rec = is.rec;
      text = one_held head (slots ++ bytes ∷ later) head.vtoc bytes is.track there is.holds;
      numbered = subst (λ (l : Label). IsFirstNumbered l.vtoc.r is.track.recs is.rec) same is.numbered;
      key = is.key;
      body = is.body;
      format = is.format;
    }

pub none_lacks : (head : DumpHead) (front : Front) (slots later : List (List ℕ)) (bytes : List ℕ) → IsFull head front → front.slots ≡ slots ++ bytes ∷ later → ¬ LacksRecord head slots bytes
none_lacks head front slots later bytes is all lacks =
    let some : length slots < length front.slots = omega (arith, some_there slots later bytes, ap length all) in
    elim lacks [
      | inl (none, wrong) ↦
          let (label, has) = is.labelled (omega (arith, some)) in
          wrong label (lacks_no_label head slots later bytes none label (subst (λ (s : List (List ℕ)). HasLabel head s label) all has))
      | inr (at, (label, has, wrong)) ↦
          wrong (lacks_no_format head slots later bytes label (subst (All (IsCutSlot head.device)) all is.slots) at has (subst (HasFormat4 head) all (is.format_4 (omega (arith, some, at)))))
    ]
