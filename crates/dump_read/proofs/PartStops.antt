-- Why a part isn't read, from each field on.
use Rattle.std.proofs.Common.{◌≡◌, inl, ℕ, zero, suc, ◌+◌, ◌-◌, ◌≤◌, ◌<◌, List, [], ◌∷◌, ◌++◌, length, take, replicate, Option, refl, sym, ap, subst, ◌∙◌, arith, length-append, append_assoc}
use Rattle.std.specs.Prelude.{slice_index}
use Rattle.std.proofs.lemmas.List.{length-replicate}
use Rattle.byteorder.specs.Endian.{big_bytes}
use Rattle.ckd_image.specs.Bytes.{Begins}
use Rattle.dump_fmt.specs.Parts.{IsPlaceless}
use Rattle.dump_read.specs.declared.part.PartHead.{PartHead}
use Rattle.dump_read.specs.declared.part.PartField.{PartField}
use Rattle.dump_read.specs.declared.part.PartField.TheVariants as fields
use Rattle.dump_read.specs.declared.part.PartStop.{PartStop}
use Rattle.dump_read.specs.declared.part.PartStop.TheVariants.{Wrong, Cut}
use Rattle.dump_read.specs.Fields.{GoesOn, IsFirstWrong, IsFieldFront}
use Rattle.dump_read.specs.Header.{BeginsFixed}
use Rattle.dump_read.specs.PartText.{place_of, length_of, IsField, IsNextName, IsKind, IsPartText, IsPartStop, IsPartRead, Stops, BeginsName, BeginsTracks, BeginsKind, ZerosStop}
use Rattle.dump_read.proofs.Chains.{Then, wrong_here, wrong_behind, cut_behind, field_goes, field_only, wrong_as, goes_as}
use Rattle.dump_read.proofs.PartChain.{FromName, FromFormat, FromFirst, FromCount, FromMiddle, FromZeros, FromTracks, FromKind, chain_of, part_of, at_index, placeless, take_length}

-- why bytes from a place behind the mark on aren't what may stand there
abbrev pub StopsAt : (List ℕ → Type 0) → List ℕ → ℕ → PartStop → Type 0
StopsAt Is bytes base (Wrong field) = (place : ℕ) × (place_of field ≡ base + place) × IsField field × IsFirstWrong Is bytes place (length_of field)
StopsAt Is bytes base Cut = (length bytes + base < 145) × GoesOn Is bytes

pub at_top : (before : Option (List ℕ)) (bytes : List ℕ) (stop : PartStop) → StopsAt (FromName before) bytes 0 stop → IsPartStop before bytes stop
at_top before bytes (Wrong field) (place, is, sound, wrong) =
    let same : place ≡ place_of field = omega (arith, is) in (
      sound,
      subst (λ (p : ℕ). IsFirstWrong (IsPartText before) bytes p (length_of field)) same (wrong_as (FromName before) (IsPartText before) (part_of before) (chain_of before) bytes place (length_of field) wrong),
    )
at_top before bytes Cut (short, goes) = (omega arith, goes_as (FromName before) (IsPartText before) (part_of before) bytes goes)

module _ {X : Type 0} (May : X → Type 0) (text : X → List ℕ) (Rest : X → List ℕ → Type 0) (n : ℕ) (long : (x : X) → May x → length (text x) ≡ n) where
  pub stops_here : (field : PartField) (bytes : List ℕ) (x : X) (base : ℕ) (stop : PartStop) → IsField field → length_of field ≡ n → place_of field ≡ base → base + n ≤ 145 → May x
      → ((y : X) → May y → (r : List ℕ) × Rest y r) → Stops field (IsFieldFront May text) bytes stop → StopsAt (Then May text Rest) bytes base stop
  stops_here field bytes x base (Wrong found) sound len at within may there (same, none) = (
    0,
    ap place_of same ∙ omega (arith, at),
    subst IsField (sym same) sound,
    subst (λ (l : ℕ). IsFirstWrong (Then May text Rest) bytes 0 l) (sym len ∙ ap length_of (sym same))
        (wrong_here May text Rest n long bytes (there x may).0 x may (there x may).1 (subst (λ (l : ℕ). ¬ IsFieldFront May text (take l bytes)) len none)),
  )
  stops_here field bytes x base Cut sound len at within may there (short, (y, ok, front)) =
      (omega (arith, len, short), field_goes May text Rest n long y (there y ok).0 bytes ok (there y ok).1 front)

  pub stops_behind : (bytes rest : List ℕ) (x : X) (base next : ℕ) (stop : PartStop) → next ≡ base + n → May x → bytes ≡ text x ++ rest
      → ((y : X) (r : List ℕ) → May y → text x ≡ text y → Rest y r → Rest x r) → StopsAt (Rest x) rest next stop → StopsAt (Then May text Rest) bytes base stop
  stops_behind bytes rest x base next (Wrong field) at may is agree (place, there, sound, wrong) =
      (n + place, omega (arith, there, at), sound, wrong_behind May text Rest n long bytes rest x place (length_of field) may is agree wrong)
  stops_behind bytes rest x base next Cut at may is agree (short, goes) =
      (let a = ap length is in let b = length-append (text x) rest in let c = long x may in omega arith, cut_behind May text Rest n long bytes rest x may is goes)

-- ---- something may stand from each field on

kind_there : (r : List ℕ) × FromKind r
kind_there = (0x01 ∷ [], record { value = 0x01; may = inl refl; rest = []; behind = refl; spelled = refl })

tracks_there : (r : List ℕ) × FromTracks r
tracks_there = (big_bytes 4 0 ++ kind_there.0, record { value = 0; may = omega arith; rest = kind_there.0; behind = kind_there.1; spelled = refl })

zeros_there : (r : List ℕ) × FromZeros r
zeros_there = (replicate 35 0 ++ tracks_there.0, record { value = tt; may = tt; rest = tracks_there.0; behind = tracks_there.1; spelled = refl })

middle_there : (r : List ℕ) × FromMiddle r
middle_there = (replicate 45 0 ++ zeros_there.0, record { value = replicate 45 0; may = refl; rest = zeros_there.0; behind = zeros_there.1; spelled = refl })

count_there : (r : List ℕ) × FromCount r
count_there = (0 ∷ middle_there.0, record { value = tt; may = tt; rest = middle_there.0; behind = middle_there.1; spelled = refl })

first_there : (r : List ℕ) × FromFirst r
first_there = (replicate 14 0 ++ count_there.0, record { value = replicate 14 0; may = refl; rest = count_there.0; behind = count_there.1; spelled = refl })

format_there : (r : List ℕ) × FromFormat r
format_there = (0xF1 ∷ first_there.0, record { value = tt; may = tt; rest = first_there.0; behind = first_there.1; spelled = refl })

-- ---- each field

pub at_name : (before : Option (List ℕ)) (name bytes : List ℕ) (stop : PartStop) → IsNextName before name → Stops fields.Name (BeginsName before) bytes stop → StopsAt (FromName before) bytes 0 stop
at_name before name bytes stop may stops =
    stops_here (IsNextName before) (λ name. name) (λ name. FromFormat) 44 (λ x may. may.long) fields.Name bytes name 0 stop tt refl refl (omega arith) may (λ y may. format_there) stops

pub behind_name : (before : Option (List ℕ)) (name bytes rest : List ℕ) (stop : PartStop) → IsNextName before name → bytes ≡ name ++ rest → StopsAt FromFormat rest 44 stop → StopsAt (FromName before) bytes 0 stop
behind_name before name bytes rest stop may is stops =
    stops_behind (IsNextName before) (λ name. name) (λ name. FromFormat) 44 (λ x may. may.long) bytes rest name 0 44 stop refl may is (λ y r may same behind. behind) stops

abbrev filled : List ℕ → ℕ → List ℕ
filled bytes n = bytes ++ replicate (n - length bytes) 0

long_filled : (bytes : List ℕ) (n : ℕ) → length bytes ≤ n → length (bytes ++ replicate (n - length bytes) 0) ≡ n
long_filled bytes n short =
    let fill : List ℕ = replicate (n - length bytes) 0 in
    let a : length (bytes ++ fill) ≡ length bytes + length fill = length-append bytes fill in
    let b : length fill ≡ n - length bytes = length-replicate {A = ℕ} (n - length bytes) 0 in
    a ∙ (let e : length bytes + length fill ≡ n = omega arith in e)

pub at_format : (bytes : List ℕ) (stop : PartStop) → Stops fields.Format (BeginsFixed (0xF1 ∷ [])) bytes stop → StopsAt FromFormat bytes 44 stop
at_format bytes stop stops =
    stops_here {X = Unit {0}} (λ x. Unit {0}) (λ x. 0xF1 ∷ []) (λ x. FromFirst) 1 (λ x may. refl) fields.Format bytes tt 44 stop tt refl refl (omega arith) tt (λ y may. first_there) stops

pub behind_format : (bytes rest : List ℕ) (stop : PartStop) → bytes ≡ 0xF1 ∷ rest → StopsAt FromFirst rest 45 stop → StopsAt FromFormat bytes 44 stop
behind_format bytes rest stop is stops =
    stops_behind {X = Unit {0}} (λ x. Unit {0}) (λ x. 0xF1 ∷ []) (λ x. FromFirst) 1 (λ x may. refl) bytes rest tt 44 45 stop refl tt is (λ y r may same behind. behind) stops

pub at_first : (bytes : List ℕ) (stop : PartStop) → stop ≡ Cut → length bytes < 14 → StopsAt FromFirst bytes 45 stop
at_first bytes stop is short =
    subst (StopsAt FromFirst bytes 45) (sym is) (
      omega arith,
      field_goes {X = List ℕ} (λ l. length l ≡ 14) (λ l. l) (λ l. FromCount) 14 (λ x may. may) (filled bytes 14) count_there.0 bytes (long_filled bytes 14 (omega arith)) count_there.1 (replicate (14 - length bytes) 0, refl),
    )

pub behind_first : (some bytes rest : List ℕ) (stop : PartStop) → length some ≡ 14 → bytes ≡ some ++ rest → StopsAt FromCount rest 59 stop → StopsAt FromFirst bytes 45 stop
behind_first some bytes rest stop long is stops =
    stops_behind {X = List ℕ} (λ l. length l ≡ 14) (λ l. l) (λ l. FromCount) 14 (λ x may. may) bytes rest some 45 59 stop refl long is (λ y r may same behind. behind) stops

pub at_count : (bytes : List ℕ) (stop : PartStop) → Stops fields.Count (BeginsFixed (0 ∷ [])) bytes stop → StopsAt FromCount bytes 59 stop
at_count bytes stop stops =
    stops_here {X = Unit {0}} (λ x. Unit {0}) (λ x. 0 ∷ []) (λ x. FromMiddle) 1 (λ x may. refl) fields.Count bytes tt 59 stop tt refl refl (omega arith) tt (λ y may. middle_there) stops

pub behind_count : (bytes rest : List ℕ) (stop : PartStop) → bytes ≡ 0 ∷ rest → StopsAt FromMiddle rest 60 stop → StopsAt FromCount bytes 59 stop
behind_count bytes rest stop is stops =
    stops_behind {X = Unit {0}} (λ x. Unit {0}) (λ x. 0 ∷ []) (λ x. FromMiddle) 1 (λ x may. refl) bytes rest tt 59 60 stop refl tt is (λ y r may same behind. behind) stops

pub at_middle : (bytes : List ℕ) (stop : PartStop) → stop ≡ Cut → length bytes < 45 → StopsAt FromMiddle bytes 60 stop
at_middle bytes stop is short =
    subst (StopsAt FromMiddle bytes 60) (sym is) (
      omega arith,
      field_goes {X = List ℕ} (λ l. length l ≡ 45) (λ l. l) (λ l. FromZeros) 45 (λ x may. may) (filled bytes 45) zeros_there.0 bytes (long_filled bytes 45 (omega arith)) zeros_there.1 (replicate (45 - length bytes) 0, refl),
    )

pub behind_middle : (some bytes rest : List ℕ) (stop : PartStop) → length some ≡ 45 → bytes ≡ some ++ rest → StopsAt FromZeros rest 105 stop → StopsAt FromMiddle bytes 60 stop
behind_middle some bytes rest stop long is stops =
    stops_behind {X = List ℕ} (λ l. length l ≡ 45) (λ l. l) (λ l. FromZeros) 45 (λ x may. may) bytes rest some 60 105 stop refl long is (λ y r may same behind. behind) stops

zeros_split : (m n : ℕ) → n ≤ m → replicate {A = ℕ} m 0 ≡ replicate {A = ℕ} n 0 ++ replicate {A = ℕ} (m - n) 0
zeros_split m zero within = ap (λ (k : ℕ). replicate {A = ℕ} k 0) (let e : m ≡ m - zero = omega arith in e)
zeros_split zero (suc n) within = absurd (omega arith)
zeros_split (suc m) (suc n) within = ap (λ (t : List ℕ). 0 ∷ t) (zeros_split m n (omega arith) ∙ ap (λ (k : ℕ). replicate {A = ℕ} n 0 ++ replicate {A = ℕ} k 0) (let e : m - n ≡ suc m - suc n = omega arith in e))

zeros_at : (m k : ℕ) → slice_index (replicate m 0) k ≡ 0
zeros_at zero k = refl
zeros_at (suc m) zero = refl
zeros_at (suc m) (suc k) = zeros_at m k

other_byte : (k b : ℕ) → k < 35 → ¬ (b ≡ 0) → ¬ Begins (replicate k 0 ++ (b ∷ [])) (replicate 35 0)
other_byte k b less other = λ (more, e).
    let here : slice_index ((replicate k 0 ++ (b ∷ [])) ++ more) k ≡ b =
    ap (λ (t : List ℕ). slice_index t k) (append_assoc (replicate k 0) (b ∷ []) more) ∙ ap (slice_index (replicate k 0 ++ (b ∷ more))) (let z : k ≡ k + 0 = omega arith in z)
    ∙ at_index (replicate k 0) (b ∷ more) k 0 (length-replicate {A = ℕ} k 0) in
    other (sym here ∙ ap (λ (t : List ℕ). slice_index t k) (sym e) ∙ zeros_at 35 k)

pub at_zeros : (bytes : List ℕ) (stop : PartStop) → ZerosStop 35 bytes stop → StopsAt FromZeros bytes 105 stop
at_zeros bytes (Wrong (fields.Extents k)) (less, (b, rest, is, other)) = (
  k,
  refl,
  less,
  record {
    front = replicate k 0;
    rest = b ∷ rest;
    spelled = is;
    place_is = length-replicate {A = ℕ} k 0;
    begun = field_goes {X = Unit {0}} (λ x. Unit {0}) (λ x. replicate 35 0) (λ x. FromTracks) 35 (λ x may. refl) tt tracks_there.0 (replicate k 0) tt tracks_there.1 (replicate (35 - k) 0, zeros_split 35 k (omega arith));
    wrong = λ goes.
        other_byte k b less other (field_only {X = Unit {0}} (λ x. Unit {0}) (λ x. replicate 35 0) (λ x. FromTracks) 35 (λ x may. refl) (replicate k 0 ++ (b ∷ []))
        (let h = length-append (replicate {A = ℕ} k 0) (b ∷ []) in let l = length-replicate {A = ℕ} k 0 in omega arith) goes).2;
  },
)
at_zeros bytes (Wrong fields.Name) is = absurd is
at_zeros bytes (Wrong fields.Format) is = absurd is
at_zeros bytes (Wrong fields.Count) is = absurd is
at_zeros bytes (Wrong fields.Tracks) is = absurd is
at_zeros bytes (Wrong fields.Kind) is = absurd is
at_zeros bytes Cut (short, is) = (
  omega arith,
  field_goes {X = Unit {0}} (λ x. Unit {0}) (λ x. replicate 35 0) (λ x. FromTracks) 35 (λ x may. refl) tt tracks_there.0 bytes tt tracks_there.1
      (replicate (35 - length bytes) 0, zeros_split 35 (length bytes) (omega arith) ∙ ap (λ (t : List ℕ). t ++ replicate (35 - length bytes) 0) (sym is)),
)

pub behind_zeros : (bytes rest : List ℕ) (stop : PartStop) → bytes ≡ replicate 35 0 ++ rest → StopsAt FromTracks rest 140 stop → StopsAt FromZeros bytes 105 stop
behind_zeros bytes rest stop is stops =
    stops_behind {X = Unit {0}} (λ x. Unit {0}) (λ x. replicate 35 0) (λ x. FromTracks) 35 (λ x may. refl) bytes rest tt 105 140 stop refl tt is (λ y r may same behind. behind) stops

pub at_tracks : (bytes : List ℕ) (stop : PartStop) → Stops fields.Tracks BeginsTracks bytes stop → StopsAt FromTracks bytes 140 stop
at_tracks bytes stop stops =
    stops_here (λ tracks. tracks ≤ 65535) (big_bytes 4) (λ tracks. FromKind) 4 (λ x may. refl) fields.Tracks bytes 0 140 stop tt refl refl (omega arith) (omega arith) (λ y may. kind_there) stops

pub behind_tracks : (tracks : ℕ) (bytes rest : List ℕ) (stop : PartStop) → tracks ≤ 65535 → bytes ≡ big_bytes 4 tracks ++ rest → StopsAt FromKind rest 144 stop → StopsAt FromTracks bytes 140 stop
behind_tracks tracks bytes rest stop few is stops =
    stops_behind (λ tracks. tracks ≤ 65535) (big_bytes 4) (λ tracks. FromKind) 4 (λ x may. refl) bytes rest tracks 140 144 stop refl few is (λ y r may same behind. behind) stops

pub at_kind : (bytes : List ℕ) (stop : PartStop) → Stops fields.Kind BeginsKind bytes stop → StopsAt FromKind bytes 144 stop
at_kind bytes stop stops =
    stops_here IsKind (λ kind. kind ∷ []) (λ kind r. r ≡ []) 1 (λ x may. refl) fields.Kind bytes 0x01 144 stop tt refl refl (omega arith) (inl refl) (λ y may. ([], refl)) stops

-- ---- all of it is read

pub part_read : (before : Option (List ℕ)) (part : PartHead) (bytes name first middle r1 r2 r3 r4 r5 r6 r7 r8 : List ℕ) → part.f1 ≡ take 140 bytes → IsNextName before name → length first ≡ 14 → length middle ≡ 45
    → part.tracks ≤ 65535 → IsKind part.kind → bytes ≡ name ++ r1 → r1 ≡ 0xF1 ∷ r2 → r2 ≡ first ++ r3 → r3 ≡ 0 ∷ r4 → r4 ≡ middle ++ r5 → r5 ≡ replicate 35 0 ++ r6 → r6 ≡ big_bytes 4 part.tracks ++ r7
    → r7 ≡ part.kind ∷ r8 → IsPartRead before bytes part
part_read before part bytes name first middle r1 r2 r3 r4 r5 r6 r7 r8 front may a b few kind e1 e2 e3 e4 e5 e6 e7 e8 =
    let f1 : List ℕ = name ++ (0xF1 ∷ (first ++ (0 ∷ (middle ++ replicate 35 0)))) in
    let last : List ℕ = big_bytes 4 part.tracks ++ (part.kind ∷ []) in
    let s5 : r5 ≡ replicate 35 0 ++ r6 = e6 in
    let s4 : r4 ≡ (middle ++ replicate 35 0) ++ r6 = e5 ∙ ap (λ (t : List ℕ). middle ++ t) e6 ∙ sym (append_assoc middle (replicate 35 0) r6) in
    let s2 : r2 ≡ (first ++ (0 ∷ (middle ++ replicate 35 0))) ++ r6 =
    e3 ∙ ap (λ (t : List ℕ). first ++ t) (e4 ∙ ap (λ (t : List ℕ). 0 ∷ t) s4) ∙ sym (append_assoc first (0 ∷ (middle ++ replicate 35 0)) r6) in
    let all : bytes ≡ f1 ++ r6 =
    e1 ∙ ap (λ (t : List ℕ). name ++ t) (e2 ∙ ap (λ (t : List ℕ). 0xF1 ∷ t) s2) ∙ sym (append_assoc name (0xF1 ∷ (first ++ (0 ∷ (middle ++ replicate 35 0)))) r6) in
    let whole = placeless name first middle may.long a b in
    let same : part.f1 ≡ f1 = front ∙ ap (take 140) all ∙ take_length f1 r6 140 whole.long in
    let behind : r6 ≡ last ++ r8 = e7 ∙ ap (λ (t : List ℕ). big_bytes 4 part.tracks ++ t) e8 in
    let named : take 44 part.f1 ≡ name = ap (take 44) same ∙ take_length name (0xF1 ∷ (first ++ (0 ∷ (middle ++ replicate 35 0)))) 44 may.long in
    record {
      text = record {
        f1 = part.f1;
        tracks = part.tracks;
        kind = part.kind;
        name = subst (IsNextName before) (sym named) may;
        placeless = subst IsPlaceless (sym same) whole;
        few = few;
        kind_is = kind;
        spelled = refl;
      };
      begins = (r8, all ∙ ap (λ (t : List ℕ). f1 ++ t) behind ∙ sym (append_assoc f1 last r8) ∙ ap (λ (t : List ℕ). (t ++ last) ++ r8) (sym same));
    }
