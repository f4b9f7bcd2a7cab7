-- The header of a dump as a chain of fields.
use Rattle.std.proofs.Common.{◌≡◌, inl, ℕ, zero, suc, ◌≤◌, ◌<◌, Bool, true, false, List, [], ◌∷◌, ◌++◌, replicate, refl, sym, ap, ◌∙◌, arith, append_assoc}
use Rattle.std.specs.Prelude.{codes, slice_index}
use Rattle.byteorder.specs.Endian.{big_bytes}
use Rattle.ckd_image.specs.declared.device.Device.{Device}
use Rattle.ckd_image.specs.declared.device.Device.TheVariants.{D3390, D3380, D3350}
use Rattle.ckd_image.specs.Head.{IsCylinders}
use Rattle.vol_label.specs.Serial.{IsSerial, IsSerialByte}
use Rattle.dump_fmt.specs.declared.piece.DumpHead.{DumpHead}
use Rattle.dump_fmt.specs.Head.{header_text, IsVtocTrack}
use Rattle.dump_read.specs.Header.{IsHeader, IsDayPair, kind_text, device_text, pair_text}
use Rattle.dump_read.proofs.Chains.{Then}

-- what may stand from each field on
abbrev pub FromZeros : List ℕ → Type 0
FromZeros = Then {X = Unit {0}} (λ x. Unit {0}) (λ x. replicate 4 0) (λ x r. r ≡ [])

abbrev pub FromVtoc : Bool → ℕ → List ℕ → Type 0
FromVtoc full tracks = Then (IsVtocTrack full tracks) (big_bytes 4) (λ vtoc. FromZeros)

abbrev pub FromDay : Bool → ℕ → List ℕ → Type 0
FromDay full tracks = Then IsDayPair pair_text (λ day. FromVtoc full tracks)

abbrev pub FromTracks : Bool → Device → List ℕ → Type 0
FromTracks full device = Then (IsCylinders device) (big_bytes 4) (FromDay full)

abbrev pub FromSerial : Bool → Device → List ℕ → Type 0
FromSerial full device = Then IsSerial (λ serial. serial) (λ serial. FromTracks full device)

abbrev pub FromDevice : Bool → List ℕ → Type 0
FromDevice full = Then (λ x. Unit {0}) device_text (FromSerial full)

abbrev pub FromKind : List ℕ → Type 0
FromKind = Then (λ x. Unit {0}) kind_text FromDevice

abbrev pub FromMagic : List ℕ → Type 0
FromMagic = Then {X = Unit {0}} (λ x. Unit {0}) (λ x. codes "ADRDUMP1") (λ x. FromKind)

-- ---- a header is such a chain

rest_of : DumpHead → List ℕ
rest_of head = big_bytes 4 head.vtoc ++ (replicate 4 0 ++ [])

pub chain_of : (text : List ℕ) → IsHeader text → FromMagic text
chain_of text (head, sound, is) = record {
  value = tt;
  may = tt;
  rest = _;
  spelled = is;
  behind = record {
    value = head.full;
    may = tt;
    rest = _;
    spelled = refl;
    behind = record {
      value = head.device;
      may = tt;
      rest = _;
      spelled = refl;
      behind = record {
        value = head.serial.text;
        may = sound.serial;
        rest = big_bytes 4 head.tracks ++ ((big_bytes 2 head.day.year ++ big_bytes 2 head.day.day) ++ (big_bytes 4 head.vtoc ++ replicate 4 0));
        spelled = append_assoc head.serial.text (big_bytes 4 head.tracks) _;
        behind = record {
          value = head.tracks;
          may = sound.tracks;
          rest = _;
          spelled = refl;
          behind = record {
            value = (head.day.year, head.day.day);
            may = sound.day;
            rest = _;
            spelled = refl;
            behind = record {
              value = head.vtoc;
              may = sound.vtoc;
              rest = replicate 4 0;
              spelled = refl;
              behind = record { value = tt; may = tt; rest = []; spelled = refl; behind = refl };
            };
          };
        };
      };
    };
  };
}

pub header_of : (text : List ℕ) → FromMagic text → IsHeader text
header_of text magic =
    let kind = magic.behind in
    let device = kind.behind in
    let serial = device.behind in
    let tracks = serial.behind in
    let day = tracks.behind in
    let vtoc = day.behind in
    let zeros = vtoc.behind in
    let head : DumpHead = record {
      full = kind.value;
      device = device.value;
      serial = record { text = serial.value };
      tracks = tracks.value;
      day = record { year = day.value.0; day = day.value.1 };
      vtoc = vtoc.value;
    } in
    let last : vtoc.rest ≡ replicate 4 0 = zeros.spelled ∙ ap (λ (t : List ℕ). replicate 4 0 ++ t) zeros.behind in
    let sixth : day.rest ≡ big_bytes 4 vtoc.value ++ replicate 4 0 = vtoc.spelled ∙ ap (λ (t : List ℕ). big_bytes 4 vtoc.value ++ t) last in
    let fifth : tracks.rest ≡ pair_text day.value ++ (big_bytes 4 vtoc.value ++ replicate 4 0) = day.spelled ∙ ap (λ (t : List ℕ). pair_text day.value ++ t) sixth in
    let fourth : serial.rest ≡ big_bytes 4 tracks.value ++ (pair_text day.value ++ (big_bytes 4 vtoc.value ++ replicate 4 0)) =
    tracks.spelled ∙ ap (λ (t : List ℕ). big_bytes 4 tracks.value ++ t) fifth in
    let third : device.rest ≡ (serial.value ++ big_bytes 4 tracks.value) ++ (pair_text day.value ++ (big_bytes 4 vtoc.value ++ replicate 4 0)) =
    serial.spelled ∙ ap (λ (t : List ℕ). serial.value ++ t) fourth ∙ sym (append_assoc serial.value (big_bytes 4 tracks.value) _) in
    let second : kind.rest ≡ device_text device.value ++ ((serial.value ++ big_bytes 4 tracks.value) ++ (pair_text day.value ++ (big_bytes 4 vtoc.value ++ replicate 4 0))) =
    device.spelled ∙ ap (λ (t : List ℕ). device_text device.value ++ t) third in
    let first : magic.rest ≡ kind_text kind.value ++ (device_text device.value ++ ((serial.value ++ big_bytes 4 tracks.value) ++ (pair_text day.value ++ (big_bytes 4 vtoc.value ++ replicate 4 0)))) =
    kind.spelled ∙ ap (λ (t : List ℕ). kind_text kind.value ++ t) second in
    let all : text ≡ header_text head = magic.spelled ∙ ap (λ (t : List ℕ). codes "ADRDUMP1" ++ t) first in
    (head, record { serial = serial.may; tracks = tracks.may; day = day.may; vtoc = vtoc.may }, all)

-- ---- something may stand from each field on

abbrev pub zeros_there : FromZeros (replicate 4 0)
zeros_there = record { value = tt; may = tt; rest = []; behind = refl; spelled = refl }

some_track : Bool → ℕ
some_track true = 1
some_track false = 0

pub vtoc_there : (full : Bool) (tracks : ℕ) → 2 ≤ tracks → (r : List ℕ) × FromVtoc full tracks r
vtoc_there true tracks many = (big_bytes 4 1 ++ replicate 4 0, record { value = 1; may = (omega arith, omega arith); rest = replicate 4 0; behind = zeros_there; spelled = refl })
vtoc_there false tracks many = (big_bytes 4 0 ++ replicate 4 0, record { value = 0; may = refl; rest = replicate 4 0; behind = zeros_there; spelled = refl })

no_day : IsDayPair (0, 0)
no_day = (omega arith, omega arith)

pub day_there : (full : Bool) (tracks : ℕ) → 2 ≤ tracks → (r : List ℕ) × FromDay full tracks r
day_there full tracks many =
    let behind = vtoc_there full tracks many in
    (pair_text (0, 0) ++ behind.0, record { value = (0, 0); may = no_day; rest = behind.0; behind = behind.1; spelled = refl })

-- so many tracks are whole cylinders of each device
pub whole_cylinders : (device : Device) → IsCylinders device 30
whole_cylinders D3390 = (omega arith, omega arith, refl)
whole_cylinders D3380 = (omega arith, omega arith, refl)
whole_cylinders D3350 = (omega arith, omega arith, refl)

pub tracks_there : (full : Bool) (device : Device) → (r : List ℕ) × FromTracks full device r
tracks_there full device =
    let behind = day_there full 30 (omega arith) in
    (big_bytes 4 30 ++ behind.0, record { value = 30; may = whole_cylinders device; rest = behind.0; behind = behind.1; spelled = refl })

abbrev pub some_serial : List ℕ
some_serial = 0xC1 ∷ 0x40 ∷ 0x40 ∷ 0x40 ∷ 0x40 ∷ 0x40 ∷ []

first_byte : (k : ℕ) → k < 1 → IsSerialByte (slice_index some_serial k)
first_byte zero less = (65, refl, inl (omega arith, omega arith))
first_byte (suc k) less = absurd (omega arith)

blank_byte : (k : ℕ) → 1 ≤ k → k < 6 → slice_index some_serial k ≡ 0x40
blank_byte zero low less = absurd (omega arith)
blank_byte (suc zero) low less = refl
blank_byte (suc (suc zero)) low less = refl
blank_byte (suc (suc (suc zero))) low less = refl
blank_byte (suc (suc (suc (suc zero)))) low less = refl
blank_byte (suc (suc (suc (suc (suc zero))))) low less = refl
blank_byte (suc (suc (suc (suc (suc (suc k)))))) low less = absurd (omega arith)

pub is_some_serial : IsSerial some_serial
is_some_serial = (1, record { six = refl; some = omega arith; few = omega arith; characters = first_byte; blanks = blank_byte })

pub serial_there : (full : Bool) (device : Device) → (r : List ℕ) × FromSerial full device r
serial_there full device =
    let behind = tracks_there full device in
    (some_serial ++ behind.0, record { value = some_serial; may = is_some_serial; rest = behind.0; behind = behind.1; spelled = refl })

pub device_there : (full : Bool) → (r : List ℕ) × FromDevice full r
device_there full =
    let behind = serial_there full D3390 in
    (device_text D3390 ++ behind.0, record { value = D3390; may = tt; rest = behind.0; behind = behind.1; spelled = refl })

pub kind_there : (r : List ℕ) × FromKind r
kind_there =
    let behind = device_there true in
    (kind_text true ++ behind.0, record { value = true; may = tt; rest = behind.0; behind = behind.1; spelled = refl })
