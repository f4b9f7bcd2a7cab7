-- A record of a dumped track as a chain of fields, and why it isn't read, from each field on.
use Rattle.std.proofs.Common.{◌≡◌, ℕ, ◌+◌, ◌-◌, ◌≤◌, ◌<◌, List, [], ◌∷◌, ◌++◌, length, take, drop, replicate, refl, sym, ap, subst, ◌∙◌, arith, length-append, length-drop}
use Rattle.std.proofs.lemmas.List.{take-append-drop, length-take, length-replicate}
use Rattle.byteorder.specs.Endian.{big_bytes}
use Rattle.ckd_image.specs.declared.track.Rec.{Rec}
use Rattle.ckd_image.specs.Bytes.{Begins}
use Rattle.ckd_image.specs.Track.{IsRecord}
use Rattle.dump_fmt.specs.Pieces.{dumped_record}
use Rattle.dump_read.specs.declared.record.RecordHead.{RecordHead}
use Rattle.dump_read.specs.declared.track.TrackField.{TrackField}
use Rattle.dump_read.specs.declared.track.TrackField.TheVariants as fields
use Rattle.dump_read.specs.declared.track.TrackStop.{TrackStop}
use Rattle.dump_read.specs.declared.track.TrackStop.TheVariants.{Wrong, Cut, NoMemory}
use Rattle.dump_read.specs.Fields.{IsFirstWrong}
use Rattle.dump_read.specs.TrackText.{length_of}
use Rattle.dump_read.specs.TrackFields.{IsCut, IsNumberStop, size_of, IsRecordText, IsRecordHead, IsRecordRead, IsInRecord, IsRecordStop}
use Rattle.dump_read.proofs.Chains.{Then, wrong_here, wrong_as}
use Rattle.dump_read.proofs.Leaves.{Leaves, leaves_both, wrong_lifted, cut_lifted, cut_as, leaves_field, cut_here}

-- what may stand from each field on
abbrev pub FromBody : ℕ → ℕ → List ℕ → Type 0
FromBody room key = Then (λ body. body ≤ room - key) (big_bytes 2) (λ body r. length r ≡ key + body)

abbrev pub MayKey : ℕ → ℕ → Type 0
MayKey room key = (key ≤ 255) × (key ≤ room)

abbrev pub FromKey : ℕ → List ℕ → Type 0
FromKey room = Then (MayKey room) (λ key. key ∷ []) (FromBody room)

abbrev pub MayNumber : ℕ → Type 0
MayNumber r = (1 ≤ r) × (r ≤ 255)

abbrev pub FromNumber : ℕ → List ℕ → Type 0
FromNumber room = Then MayNumber (λ r. r ∷ []) (λ r. FromKey room)

-- ---- a record is such a chain

chain_of : (room : ℕ) (text : List ℕ) → IsRecordText room text → FromNumber room text
chain_of room text (rec, sound, within, is) = record {
  value = rec.r;
  may = (sound.numbered, sound.number_fits);
  rest = length rec.key ∷ (big_bytes 2 (length rec.body) ++ (rec.key ++ rec.body));
  spelled = is;
  behind = record {
    value = length rec.key;
    may = (sound.key_fits, omega (arith, within));
    rest = big_bytes 2 (length rec.body) ++ (rec.key ++ rec.body);
    spelled = refl;
    behind = record { value = length rec.body; may = omega (arith, within); rest = rec.key ++ rec.body; behind = length-append rec.key rec.body; spelled = refl };
  };
}

-- the record of what stands before its key, and of the bytes behind that
abbrev pub record_of : ℕ → ℕ → List ℕ → Rec
record_of r key text = record { r = r; key = take key text; body = drop key text }

key_long : (key body : ℕ) (text : List ℕ) → length text ≡ key + body → length (take key text) ≡ key
key_long key body text long = omega (arith, length-take key text, long)

body_long : (key body : ℕ) (text : List ℕ) → length text ≡ key + body → length (drop key text) ≡ body
body_long key body text long = omega (arith, length-drop key text, long)

pub record_spelled : (r key body : ℕ) (text : List ℕ) → length text ≡ key + body → dumped_record (record_of r key text) ≡ (r ∷ key ∷ []) ++ (big_bytes 2 body ++ text)
record_spelled r key body text long =
    ap (λ (n : ℕ). (r ∷ n ∷ []) ++ (big_bytes 2 (length (drop key text)) ++ (take key text ++ drop key text))) (key_long key body text long)
    ∙ ap (λ (n : ℕ). (r ∷ key ∷ []) ++ (big_bytes 2 n ++ (take key text ++ drop key text))) (body_long key body text long)
    ∙ ap (λ (t : List ℕ). (r ∷ key ∷ []) ++ (big_bytes 2 body ++ t)) (take-append-drop key text)

pub record_sound : (room r key body : ℕ) (text : List ℕ) → room ≤ 65535 → 1 ≤ r → r ≤ 255 → key ≤ 255 → key + body ≤ room → length text ≡ key + body
    → IsRecord (record_of r key text) × (size_of (record_of r key text) ≤ room)
record_sound room r key body text small some few fits within long =
    let k = key_long key body text long in
    let b = body_long key body text long in
    (record { numbered = some; number_fits = few; key_fits = omega (arith, k, fits); body_fits = omega (arith, b, within, small) }, omega (arith, k, b, within))

text_of : (room : ℕ) → room ≤ 65535 → (text : List ℕ) → FromNumber room text → IsRecordText room text
text_of room small text is =
    let keyed = is.behind in
    let bodied = keyed.behind in
    let r : ℕ = is.value in
    let key : ℕ = keyed.value in
    let body : ℕ = bodied.value in
    let within : key + body ≤ room = omega (arith, keyed.may.1, bodied.may) in
    let sound = record_sound room r key body bodied.rest small is.may.0 is.may.1 keyed.may.0 within bodied.behind in
    let inner : is.rest ≡ key ∷ (big_bytes 2 body ++ bodied.rest) = keyed.spelled ∙ ap (λ (t : List ℕ). key ∷ t) bodied.spelled in (
      record_of r key bodied.rest,
      sound.0,
      sound.1,
      is.spelled ∙ ap (λ (t : List ℕ). r ∷ t) inner ∙ sym (record_spelled r key body bodied.rest bodied.behind),
    )

-- ---- something may stand from each field on

body_there : (room key : ℕ) → (r : List ℕ) × FromBody room key r
body_there room key = (big_bytes 2 0 ++ replicate (key + 0) 0, record { value = 0; may = omega arith; rest = replicate (key + 0) 0; behind = length-replicate {A = ℕ} (key + 0) 0; spelled = refl })

key_there : (room : ℕ) → (r : List ℕ) × FromKey room r
key_there room = let more = body_there room 0 in (0 ∷ more.0, record { value = 0; may = (omega arith, omega arith); rest = more.0; behind = more.1; spelled = refl })

-- ---- a front leaves what may stand behind it

number_leaves : (room r : ℕ) → MayNumber r → Leaves (FromNumber room) (r ∷ []) (FromKey room)
number_leaves room r may = leaves_field MayNumber (λ r. r ∷ []) (λ r. FromKey room) 1 (λ x may. refl) r may (λ y t may same behind. behind)

one_cell : (a b : ℕ) → a ∷ [] ≡ b ∷ [] → a ≡ b
one_cell a b e = cc

key_leaves : (room key : ℕ) → MayKey room key → Leaves (FromKey room) (key ∷ []) (FromBody room key)
key_leaves room key may =
    leaves_field (MayKey room) (λ key. key ∷ []) (FromBody room) 1 (λ x may. refl) key may (λ y t may same behind. subst (λ (k : ℕ). FromBody room k t) (sym (one_cell key y same)) behind)

-- ---- why none stands there

-- a field is wrong at the front of what may stand from it on, or it is cut
stops_as : (room : ℕ) → room ≤ 65535 → (start : ℕ) (bytes : List ℕ) (stop : TrackStop) → IsRecordStop (FromNumber room) start bytes stop → IsRecordStop (IsRecordText room) start bytes stop
stops_as room small start bytes (Wrong field place) (within, is_in, at, wrong) =
    (within, is_in, at, wrong_as (FromNumber room) (IsRecordText room) (text_of room small) (chain_of room) bytes within (length_of field) wrong)
stops_as room small start bytes Cut cut = cut_as (FromNumber room) (IsRecordText room) (text_of room small) bytes cut
stops_as room small start bytes NoMemory stop = tt

nothing : (bytes : List ℕ) → length bytes ≡ 0 → (n : ℕ) → Begins bytes (n ∷ [])
nothing [] none n = (n ∷ [], refl)
nothing (x ∷ bytes) none n = absurd (omega arith)

pub number_cut : (room start : ℕ) (bytes : List ℕ) → room ≤ 65535 → length bytes ≡ 0 → IsRecordStop (IsRecordText room) start bytes Cut
number_cut room start bytes small none =
    stops_as room small start bytes Cut
    (cut_here MayNumber (λ r. r ∷ []) (λ r. FromKey room) 1 (λ x may. refl) 1 (key_there room).0 bytes (omega arith, omega arith) (key_there room).1 (nothing bytes none 1) (omega (arith, none)))

pub number_wrong : (room start r : ℕ) (bytes rest : List ℕ) → room ≤ 65535 → bytes ≡ r ∷ rest → r ≡ 0 → IsRecordStop (IsRecordText room) start bytes (Wrong fields.Number start)
number_wrong room start r bytes rest small is none =
    stops_as room small start bytes (Wrong fields.Number start) (
      0,
      refl,
      omega arith,
      wrong_here MayNumber (λ r. r ∷ []) (λ r. FromKey room) 1 (λ x may. refl) bytes (key_there room).0 1 (omega arith, omega arith) (key_there room).1
          (λ (n, may, (more, e)).
          let front : take 1 bytes ≡ r ∷ [] = ap (take 1) is in
          let same : n ∷ [] ≡ (r ∷ []) ++ more = e ∙ ap (λ (t : List ℕ). t ++ more) front in
          let one : n ≡ r = cc in
          let some = may.0 in
          omega arith),
    )

pub key_cut : (room start r : ℕ) (bytes rest : List ℕ) → room ≤ 65535 → 1 ≤ r → r ≤ 255 → bytes ≡ r ∷ rest → length rest ≡ 0 → IsRecordStop (IsRecordText room) start bytes Cut
key_cut room start r bytes rest small some few is none =
    stops_as room small start bytes Cut
    (cut_lifted (FromNumber room) (r ∷ []) (FromKey room) (number_leaves room r (some, few)) bytes rest is
    (cut_here (MayKey room) (λ key. key ∷ []) (FromBody room) 1 (λ x may. refl) 0 (body_there room 0).0 rest (omega arith, omega arith) (body_there room 0).1 (nothing rest none 0) (omega (arith, none))))

pub key_wrong : (room start r key : ℕ) (bytes rest behind : List ℕ) → room ≤ 65535 → 1 ≤ r → r ≤ 255 → bytes ≡ r ∷ rest → rest ≡ key ∷ behind → room < key
    → IsRecordStop (IsRecordText room) start bytes (Wrong fields.Key (start + 1))
key_wrong room start r key bytes rest behind small some few is there long =
    stops_as room small start bytes (Wrong fields.Key (start + 1)) (
      1,
      refl,
      refl,
      wrong_lifted (FromNumber room) (r ∷ []) (FromKey room) (number_leaves room r (some, few)) bytes rest 0 1 is
          (wrong_here (MayKey room) (λ key. key ∷ []) (FromBody room) 1 (λ x may. refl) rest (body_there room 0).0 0 (omega arith, omega arith) (body_there room 0).1
          (λ (n, may, (more, e)).
          let front : take 1 rest ≡ key ∷ [] = ap (take 1) there in
          let same : n ∷ [] ≡ (key ∷ []) ++ more = e ∙ ap (λ (t : List ℕ). t ++ more) front in
          let one : n ≡ key = cc in
          let high = may.1 in
          omega arith)),
    )

body_stop : (room key start place : ℕ) (bytes : List ℕ) (stop : TrackStop) → IsNumberStop fields.Body place (room - key) bytes stop → place ≡ start + 2
    → (front : List ℕ) (Is : List ℕ → Type 0) (whole : List ℕ) → length front ≡ 2 → Leaves Is front (FromBody room key) → whole ≡ front ++ bytes → IsRecordStop Is start whole stop
body_stop room key start place bytes (Wrong found at) (same, there, none) place_is front Is whole two leaves is =
    let inner = wrong_here (λ body. body ≤ room - key) (big_bytes 2) (λ body r. length r ≡ key + body) 2 (λ x may. refl) bytes (replicate (key + 0) 0) 0 (omega arith) (length-replicate {A = ℕ} (key + 0) 0) none in
    let lifted = wrong_lifted Is front (FromBody room key) leaves whole bytes 0 2 is inner in (
      2,
      subst (λ (f : TrackField). IsInRecord f 2) (sym same) refl,
      there ∙ place_is,
      subst (λ (f : TrackField). IsFirstWrong Is whole 2 (length_of f)) (sym same) (subst (λ (p : ℕ). IsFirstWrong Is whole p 2) (let e : length front + 0 ≡ 2 = omega (arith, two) in e) lifted),
    )
body_stop room key start place bytes Cut (short, (body, may, begins)) place_is front Is whole two leaves is =
    cut_lifted Is front (FromBody room key) leaves whole bytes is
    (cut_here (λ body. body ≤ room - key) (big_bytes 2) (λ body r. length r ≡ key + body) 2 (λ x may. refl) body (replicate (key + body) 0) bytes may (length-replicate {A = ℕ} (key + body) 0) begins short)
body_stop room key start place bytes NoMemory stop place_is front Is whole two leaves is = absurd stop

pub body_stops : (room start r key : ℕ) (bytes rest behind : List ℕ) (stop : TrackStop) → room ≤ 65535 → 1 ≤ r → r ≤ 255 → key ≤ 255 → key ≤ room → bytes ≡ r ∷ rest → rest ≡ key ∷ behind
    → IsNumberStop fields.Body (start + 2) (room - key) behind stop → IsRecordStop (IsRecordText room) start bytes stop
body_stops room start r key bytes rest behind stop small some few fits within is there stops =
    let leaves = leaves_both (FromNumber room) (FromKey room) (FromBody room key) (r ∷ []) (key ∷ []) (number_leaves room r (some, few)) (key_leaves room key (fits, within)) in
    stops_as room small start bytes stop
    (body_stop room key start (start + 2) behind stop stops refl (r ∷ key ∷ []) (FromNumber room) bytes refl leaves (is ∙ ap (λ (t : List ℕ). r ∷ t) there))

pub text_cut : (room : ℕ) (bytes rest : List ℕ) (head : RecordHead) → room ≤ 65535 → IsRecordHead room bytes head rest → length rest < head.key + head.body → IsCut (IsRecordText room) bytes
text_cut room bytes rest head small is short =
    let size : ℕ = head.key + head.body in
    let zeros : List ℕ = replicate (size - length rest) 0 in
    let text : List ℕ = rest ++ zeros in
    let long : length text ≡ size = omega (arith, length-append rest zeros, length-replicate {A = ℕ} (size - length rest) 0, short) in
    let sound = record_sound room head.r head.key head.body text small is.numbered is.number_fits is.key_fits is.within long in
    let whole : dumped_record (record_of head.r head.key text) ≡ bytes ++ zeros = record_spelled head.r head.key head.body text long ∙ ap (λ (t : List ℕ). t ++ zeros) (sym is.spelled) in (
      dumped_record (record_of head.r head.key text),
      (record_of head.r head.key text, sound.0, sound.1, refl),
      (zeros, whole),
      omega (arith, ap length whole, length-append bytes zeros, length-replicate {A = ℕ} (size - length rest) 0, short),
    )

pub record_read : (room : ℕ) (bytes rest text behind : List ℕ) (head : RecordHead) (rec : Rec) → room ≤ 65535 → IsRecordHead room bytes head rest → rest ≡ text ++ behind → length text ≡ head.key + head.body
    → rec ≡ record_of head.r head.key text → IsRecordRead room bytes rec behind
record_read room bytes rest text behind head rec small is there long same =
    let sound = record_sound room head.r head.key head.body text small is.numbered is.number_fits is.key_fits is.within long in
    let whole : bytes ≡ ((head.r ∷ head.key ∷ []) ++ (big_bytes 2 head.body ++ text)) ++ behind = is.spelled ∙ ap (λ (t : List ℕ). (head.r ∷ head.key ∷ []) ++ (big_bytes 2 head.body ++ t)) there in
    subst (λ (r : Rec). IsRecordRead room bytes r behind) (sym same)
    (record {
      sound = sound.0;
      within = sound.1;
      spelled = whole ∙ ap (λ (t : List ℕ). t ++ behind) (sym (record_spelled head.r head.key head.body text long));
    })
