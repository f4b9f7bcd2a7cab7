-- Why no header is read, from each field on.
use Rattle.std.proofs.Common.{◌≡◌, ℕ, ◌+◌, ◌≤◌, ◌<◌, Bool, true, false, List, [], ◌++◌, length, take, replicate, refl, sym, ap, subst, ◌∙◌, arith, append_assoc, length-append}
use Rattle.std.specs.Prelude.{codes}
use Rattle.byteorder.specs.Endian.{big_bytes}
use Rattle.ckd_image.specs.declared.device.Device.{Device}
use Rattle.ckd_image.specs.declared.device.Device.TheVariants.{D3390, D3380, D3350}
use Rattle.ckd_image.specs.Head.{IsCylinders}
use Rattle.vol_label.specs.Serial.{IsSerial}
use Rattle.ckd_image.specs.Bytes.{Begins}
use Rattle.dump_fmt.specs.declared.piece.DumpHead.{DumpHead}
use Rattle.dump_fmt.specs.Head.{IsVtocTrack, IsDumpHead, header_text, day_text}
use Rattle.dump_read.specs.declared.header.HeaderField.{HeaderField}
use Rattle.dump_read.specs.declared.header.HeaderField.TheVariants as fields
use Rattle.dump_read.specs.declared.header.HeaderStop.{HeaderStop}
use Rattle.dump_read.specs.declared.header.HeaderStop.TheVariants.{Wrong, Cut}
use Rattle.dump_read.specs.Fields.{GoesOn, IsFirstWrong, IsFieldFront}
use Rattle.dump_read.specs.Header.{offset_of, length_of, IsHeader, IsDayPair, IsHeaderStop, Stops, kind_text, device_text, pair_text, BeginsFixed, BeginsKind, BeginsDevice, BeginsSerial, BeginsTracks, BeginsDay, BeginsVtoc}
use Rattle.dump_read.proofs.Chains.{Then, wrong_here, wrong_behind, cut_behind, field_goes, wrong_as, goes_as}
use Rattle.dump_read.proofs.Delimited.{other_mark}
use Rattle.dump_read.proofs.Numbers.{one_number}
use Rattle.dump_read.proofs.Headers.{FromMagic, FromKind, FromDevice, FromSerial, FromTracks, FromDay, FromVtoc, FromZeros, chain_of, header_of, kind_there, whole_cylinders, device_there, serial_there, tracks_there, day_there, vtoc_there, zeros_there, some_serial, is_some_serial}

-- why bytes from a place of the header on aren't what may stand there
abbrev pub StopsAt : (List ℕ → Type 0) → List ℕ → ℕ → HeaderStop → Type 0
StopsAt Is bytes base (Wrong field) = (place : ℕ) × (offset_of field ≡ base + place) × IsFirstWrong Is bytes place (length_of field)
StopsAt Is bytes base Cut = (length bytes + base < 32) × GoesOn Is bytes

pub at_top : (bytes : List ℕ) (stop : HeaderStop) → StopsAt FromMagic bytes 0 stop → IsHeaderStop bytes stop
at_top bytes (Wrong field) (place, is, wrong) =
    let same : place ≡ offset_of field = omega (arith, is) in
    subst (λ (p : ℕ). IsFirstWrong IsHeader bytes p (length_of field)) same (wrong_as FromMagic IsHeader header_of chain_of bytes place (length_of field) wrong)
at_top bytes Cut (short, goes) = (omega arith, goes_as FromMagic IsHeader header_of bytes goes)

module _ {X : Type 0} (May : X → Type 0) (text : X → List ℕ) (Rest : X → List ℕ → Type 0) (n : ℕ) (long : (x : X) → May x → length (text x) ≡ n) where
  pub stops_here : (field : HeaderField) (bytes : List ℕ) (x : X) (base : ℕ) (stop : HeaderStop) → length_of field ≡ n → offset_of field ≡ base → base + n ≤ 32 → May x
      → ((y : X) → May y → (r : List ℕ) × Rest y r) → Stops field (IsFieldFront May text) bytes stop → StopsAt (Then May text Rest) bytes base stop
  stops_here field bytes x base (Wrong found) len at within may there (same, none) = (
    0,
    ap offset_of same ∙ omega (arith, at),
    subst (λ (l : ℕ). IsFirstWrong (Then May text Rest) bytes 0 l) (sym len ∙ ap length_of (sym same))
        (wrong_here May text Rest n long bytes (there x may).0 x may (there x may).1 (subst (λ (l : ℕ). ¬ IsFieldFront May text (take l bytes)) len none)),
  )
  stops_here field bytes x base Cut len at within may there (short, (y, ok, front)) =
      (omega (arith, len, short), field_goes May text Rest n long y (there y ok).0 bytes ok (there y ok).1 front)

  pub stops_behind : (bytes rest : List ℕ) (x : X) (base next : ℕ) (stop : HeaderStop) → next ≡ base + n → May x → bytes ≡ text x ++ rest
      → ((y : X) (r : List ℕ) → May y → text x ≡ text y → Rest y r → Rest x r) → StopsAt (Rest x) rest next stop → StopsAt (Then May text Rest) bytes base stop
  stops_behind bytes rest x base next (Wrong field) at may is agree (place, there, wrong) =
      (n + place, omega (arith, there, at), wrong_behind May text Rest n long bytes rest x place (length_of field) may is agree wrong)
  stops_behind bytes rest x base next Cut at may is agree (short, goes) =
      (let a = ap length is in let b = length-append (text x) rest in let c = long x may in omega arith, cut_behind May text Rest n long bytes rest x may is goes)

-- ---- each field

pub many_tracks : (device : Device) (n : ℕ) → IsCylinders device n → 2 ≤ n
many_tracks D3390 n is = let a = is.0 in let b = is.2 in omega arith
many_tracks D3380 n is = let a = is.0 in let b = is.2 in omega arith
many_tracks D3350 n is = let a = is.0 in let b = is.2 in omega arith

pub one_kind : (a b : Bool) → kind_text a ≡ kind_text b → a ≡ b
one_kind true true e = refl
one_kind true false e = absurd (other_mark (kind_text true) (kind_text false) e (omega arith))
one_kind false true e = absurd (other_mark (kind_text false) (kind_text true) e (omega arith))
one_kind false false e = refl

pub one_device : (a b : Device) → device_text a ≡ device_text b → a ≡ b
one_device D3390 D3390 e = refl
one_device D3390 D3380 e = absurd (other_mark (device_text D3390) (device_text D3380) e (omega arith))
one_device D3390 D3350 e = absurd (other_mark (device_text D3390) (device_text D3350) e (omega arith))
one_device D3380 D3390 e = absurd (other_mark (device_text D3380) (device_text D3390) e (omega arith))
one_device D3380 D3380 e = refl
one_device D3380 D3350 e = absurd (other_mark (device_text D3380) (device_text D3350) e (omega arith))
one_device D3350 D3390 e = absurd (other_mark (device_text D3350) (device_text D3390) e (omega arith))
one_device D3350 D3380 e = absurd (other_mark (device_text D3350) (device_text D3380) e (omega arith))
one_device D3350 D3350 e = refl

pub at_magic : (bytes : List ℕ) (stop : HeaderStop) → Stops fields.Magic (BeginsFixed (codes "ADRDUMP1")) bytes stop → StopsAt FromMagic bytes 0 stop
at_magic bytes stop stops =
    stops_here {X = Unit {0}} (λ x. Unit {0}) (λ x. codes "ADRDUMP1") (λ x. FromKind) 8 (λ x may. refl) fields.Magic bytes tt 0 stop refl refl (omega arith) tt (λ y may. kind_there) stops

pub behind_magic : (bytes rest : List ℕ) (stop : HeaderStop) → bytes ≡ codes "ADRDUMP1" ++ rest → StopsAt FromKind rest 8 stop → StopsAt FromMagic bytes 0 stop
behind_magic bytes rest stop is stops =
    stops_behind {X = Unit {0}} (λ x. Unit {0}) (λ x. codes "ADRDUMP1") (λ x. FromKind) 8 (λ x may. refl) bytes rest tt 0 8 stop refl tt is (λ y r may same behind. behind) stops

pub at_kind : (bytes : List ℕ) (stop : HeaderStop) → Stops fields.Kind BeginsKind bytes stop → StopsAt FromKind bytes 8 stop
at_kind bytes stop stops =
    stops_here (λ x. Unit {0}) kind_text FromDevice 1 (λ x may. refl) fields.Kind bytes true 8 stop refl refl (omega arith) tt (λ full may. device_there full) stops

pub behind_kind : (full : Bool) (bytes rest : List ℕ) (stop : HeaderStop) → bytes ≡ kind_text full ++ rest → StopsAt (FromDevice full) rest 9 stop → StopsAt FromKind bytes 8 stop
behind_kind full bytes rest stop is stops =
    stops_behind (λ x. Unit {0}) kind_text FromDevice 1 (λ x may. refl) bytes rest full 8 9 stop refl tt is
    (λ other r may same behind. subst (λ (f : Bool). FromDevice f r) (sym (one_kind full other same)) behind) stops

pub at_device : (full : Bool) (bytes : List ℕ) (stop : HeaderStop) → Stops fields.Device BeginsDevice bytes stop → StopsAt (FromDevice full) bytes 9 stop
at_device full bytes stop stops =
    stops_here (λ x. Unit {0}) device_text (FromSerial full) 1 (λ x may. refl) fields.Device bytes D3390 9 stop refl refl (omega arith) tt (λ device may. serial_there full device) stops

pub behind_device : (full : Bool) (device : Device) (bytes rest : List ℕ) (stop : HeaderStop) → bytes ≡ device_text device ++ rest → StopsAt (FromSerial full device) rest 10 stop
    → StopsAt (FromDevice full) bytes 9 stop
behind_device full device bytes rest stop is stops =
    stops_behind (λ x. Unit {0}) device_text (FromSerial full) 1 (λ x may. refl) bytes rest device 9 10 stop refl tt is
    (λ other r may same behind. subst (λ (d : Device). FromSerial full d r) (sym (one_device device other same)) behind) stops

pub at_serial : (full : Bool) (device : Device) (bytes : List ℕ) (stop : HeaderStop) → Stops fields.Serial BeginsSerial bytes stop → StopsAt (FromSerial full device) bytes 10 stop
at_serial full device bytes stop stops =
    stops_here IsSerial (λ serial. serial) (λ serial. FromTracks full device) 6 (λ x may. may.1.six) fields.Serial bytes some_serial 10 stop refl refl (omega arith) is_some_serial
    (λ serial may. tracks_there full device) stops

pub behind_serial : (full : Bool) (device : Device) (serial bytes rest : List ℕ) (stop : HeaderStop) → IsSerial serial → bytes ≡ serial ++ rest → StopsAt (FromTracks full device) rest 16 stop
    → StopsAt (FromSerial full device) bytes 10 stop
behind_serial full device serial bytes rest stop may is stops =
    stops_behind IsSerial (λ serial. serial) (λ serial. FromTracks full device) 6 (λ x may. may.1.six) bytes rest serial 10 16 stop refl may is (λ y r may same behind. behind) stops

pub at_tracks : (full : Bool) (device : Device) (bytes : List ℕ) (stop : HeaderStop) → Stops fields.Tracks (BeginsTracks device) bytes stop → StopsAt (FromTracks full device) bytes 16 stop
at_tracks full device bytes stop stops =
    stops_here (IsCylinders device) (big_bytes 4) (FromDay full) 4 (λ x may. refl) fields.Tracks bytes 30 16 stop refl refl (omega arith) (whole_cylinders device)
    (λ n may. day_there full n (many_tracks device n may)) stops

pub behind_tracks : (full : Bool) (device : Device) (tracks : ℕ) (bytes rest : List ℕ) (stop : HeaderStop) → IsCylinders device tracks → bytes ≡ big_bytes 4 tracks ++ rest
    → StopsAt (FromDay full tracks) rest 20 stop → StopsAt (FromTracks full device) bytes 16 stop
behind_tracks full device tracks bytes rest stop may is stops =
    stops_behind (IsCylinders device) (big_bytes 4) (FromDay full) 4 (λ x may. refl) bytes rest tracks 16 20 stop refl may is
    (λ n r other same behind. subst (λ (t : ℕ). FromDay full t r) (sym (one_number tracks n (let h = may.1 in omega arith) (let h = other.1 in omega arith) same)) behind) stops

pub at_day : (full : Bool) (tracks : ℕ) (bytes : List ℕ) (stop : HeaderStop) → 2 ≤ tracks → stop ≡ Cut → length bytes < 4 → BeginsDay bytes → StopsAt (FromDay full tracks) bytes 20 stop
at_day full tracks bytes stop many is short (day, ok, front) =
    subst (StopsAt (FromDay full tracks) bytes 20) (sym is) (
      omega arith,
      field_goes IsDayPair pair_text (λ day. FromVtoc full tracks) 4 (λ x may. refl) day (vtoc_there full tracks many).0 bytes ok (vtoc_there full tracks many).1 front,
    )

pub behind_day : (full : Bool) (tracks year day : ℕ) (bytes rest : List ℕ) (stop : HeaderStop) → IsDayPair (year, day) → bytes ≡ pair_text (year, day) ++ rest
    → StopsAt (FromVtoc full tracks) rest 24 stop → StopsAt (FromDay full tracks) bytes 20 stop
behind_day full tracks year day bytes rest stop may is stops =
    stops_behind IsDayPair pair_text (λ day. FromVtoc full tracks) 4 (λ x may. refl) bytes rest (year, day) 20 24 stop refl may is (λ y r may same behind. behind) stops

some_vtoc : (full : Bool) (tracks : ℕ) → 2 ≤ tracks → (n : ℕ) × IsVtocTrack full tracks n
some_vtoc true tracks many = (1, (omega arith, omega arith))
some_vtoc false tracks many = (0, refl)

pub at_vtoc : (full : Bool) (tracks : ℕ) (bytes : List ℕ) (stop : HeaderStop) → 2 ≤ tracks → Stops fields.Vtoc (BeginsVtoc full tracks) bytes stop → StopsAt (FromVtoc full tracks) bytes 24 stop
at_vtoc full tracks bytes stop many stops =
    stops_here (IsVtocTrack full tracks) (big_bytes 4) (λ vtoc. FromZeros) 4 (λ x may. refl) fields.Vtoc bytes (some_vtoc full tracks many).0 24 stop refl refl (omega arith) (some_vtoc full tracks many).1
    (λ n may. (replicate 4 0, zeros_there)) stops

pub behind_vtoc : (full : Bool) (tracks vtoc : ℕ) (bytes rest : List ℕ) (stop : HeaderStop) → IsVtocTrack full tracks vtoc → bytes ≡ big_bytes 4 vtoc ++ rest → StopsAt FromZeros rest 28 stop
    → StopsAt (FromVtoc full tracks) bytes 24 stop
behind_vtoc full tracks vtoc bytes rest stop may is stops =
    stops_behind (IsVtocTrack full tracks) (big_bytes 4) (λ vtoc. FromZeros) 4 (λ x may. refl) bytes rest vtoc 24 28 stop refl may is (λ y r may same behind. behind) stops

pub at_zeros : (bytes : List ℕ) (stop : HeaderStop) → Stops fields.Zeros (BeginsFixed (replicate 4 0)) bytes stop → StopsAt FromZeros bytes 28 stop
at_zeros bytes stop stops =
    stops_here {X = Unit {0}} (λ x. Unit {0}) (λ x. replicate 4 0) (λ x r. r ≡ []) 4 (λ x may. refl) fields.Zeros bytes tt 28 stop refl refl (omega arith) tt (λ y may. ([], refl)) stops

-- ---- all of it is read

pub header_read : (head : DumpHead) (bytes r1 r2 r3 r4 r5 r6 r7 r8 : List ℕ) → IsSerial head.serial.text → IsCylinders head.device head.tracks → IsDayPair (head.day.year, head.day.day)
    → IsVtocTrack head.full head.tracks head.vtoc
    → bytes ≡ codes "ADRDUMP1" ++ r1 → r1 ≡ kind_text head.full ++ r2 → r2 ≡ device_text head.device ++ r3 → r3 ≡ head.serial.text ++ r4 → r4 ≡ big_bytes 4 head.tracks ++ r5
    → r5 ≡ pair_text (head.day.year, head.day.day) ++ r6 → r6 ≡ big_bytes 4 head.vtoc ++ r7 → r7 ≡ replicate 4 0 ++ r8 → IsDumpHead head × Begins (header_text head) bytes
header_read head bytes r1 r2 r3 r4 r5 r6 r7 r8 serial tracks day vtoc e1 e2 e3 e4 e5 e6 e7 e8 =
    let behind : r5 ≡ day_text head ++ r8 =
    e6 ∙ ap (λ (t : List ℕ). pair_text (head.day.year, head.day.day) ++ t) (e7 ∙ ap (λ (t : List ℕ). big_bytes 4 head.vtoc ++ t) e8) in
    let third : r3 ≡ ((head.serial.text ++ big_bytes 4 head.tracks) ++ day_text head) ++ r8 =
    e4 ∙ ap (λ (t : List ℕ). head.serial.text ++ t) (e5 ∙ ap (λ (t : List ℕ). big_bytes 4 head.tracks ++ t) behind)
    ∙ sym (append_assoc head.serial.text (big_bytes 4 head.tracks) (day_text head ++ r8)) ∙ sym (append_assoc (head.serial.text ++ big_bytes 4 head.tracks) (day_text head) r8) in
    let first : r1 ≡ kind_text head.full ++ (device_text head.device ++ (((head.serial.text ++ big_bytes 4 head.tracks) ++ day_text head) ++ r8)) =
    e2 ∙ ap (λ (t : List ℕ). kind_text head.full ++ t) (e3 ∙ ap (λ (t : List ℕ). device_text head.device ++ t) third) in
    let all : bytes ≡ header_text head ++ r8 = e1 ∙ ap (λ (t : List ℕ). codes "ADRDUMP1" ++ t) first in
    (record { serial = serial; tracks = tracks; day = day; vtoc = vtoc }, (r8, all))
