-- The definitions on small journals, worked by hand.
use Rattle.std.specs.Prelude.{◌≡◌, ℕ, true, List, [], ◌∷◌, ◌++◌, length, drop, replicate, ◌==◌, if◌then◌else◌}
use Rattle.std.proofs.Common.{refl}
use Rattle.dasd_pool.specs.Disk.{Image}
use Rattle.vol_label.specs.declared.serial.Serial.{Serial}
use Rattle.redo_core.specs.declared.control.Control.TheVariants.{Idle, Slide}
use Rattle.redo_core.specs.Format.{head_text, registration_text, room_in, serials_in, control_in, is_filling, directory_text, directory_in}
use Rattle.redo_core.specs.Reading.{overlay}

pub a_head_has_512_bytes : length head_text ≡ 512
a_head_has_512_bytes = refl

-- ADRREG01, one volume, room 64, VOL001
pub a_registration : registration_text (record { text = 0xE5 ∷ 0xD6 ∷ 0xD3 ∷ 0xF0 ∷ 0xF0 ∷ 0xF1 ∷ [] } ∷ []) 64
    ≡ 0x41 ∷ 0x44 ∷ 0x52 ∷ 0x52 ∷ 0x45 ∷ 0x47 ∷ 0x30 ∷ 0x31 ∷ 0 ∷ 0 ∷ 0 ∷ 1 ∷ 0 ∷ 0 ∷ 0 ∷ 64 ∷ 0xE5 ∷ 0xD6 ∷ 0xD3 ∷ 0xF0 ∷ 0xF0 ∷ 0xF1 ∷ []
a_registration = refl

abbrev two_names : List Serial
two_names = record { text = 0xE5 ∷ 0xD6 ∷ 0xD3 ∷ 0xF0 ∷ 0xF0 ∷ 0xF1 ∷ [] } ∷ record { text = 0xC1 ∷ 0x40 ∷ 0x40 ∷ 0x40 ∷ 0x40 ∷ 0x40 ∷ [] } ∷ []

pub its_serials : serials_in 2 (drop 16 (registration_text two_names 64)) ≡ two_names
its_serials = refl

pub its_room : room_in (registration_text two_names 8191) ≡ 8191
its_room = refl

-- two targets: block 258 of unit 0, and block 2 of unit 1
abbrev two_targets : List ℕ
two_targets = 0 ∷ 0 ∷ 0 ∷ 2 ∷ 0 ∷ 0 ∷ 0 ∷ 0 ∷ 0 ∷ 0 ∷ 1 ∷ 2 ∷ 0 ∷ 0 ∷ 0 ∷ 1 ∷ 0 ∷ 0 ∷ 0 ∷ 2 ∷ []

pub a_directory : directory_text (record { unit = 0; block = 258 } ∷ record { unit = 1; block = 2 } ∷ []) ≡ two_targets
a_directory = refl

pub it_reads_back : directory_in (two_targets ++ 9 ∷ []) ≡ record { unit = 0; block = 258 } ∷ record { unit = 1; block = 2 } ∷ []
it_reads_back = refl

pub zeros_name_no_target : directory_in (replicate 64 0) ≡ []
zeros_name_no_target = refl

-- a slide of unit 0 from 9 to 2 of 3 tracks, of which 1 is done, and a fill of unit 1
abbrev a_control : List ℕ
a_control = 1 ∷ (replicate 10 0 ++ (9 ∷ 0 ∷ 0 ∷ 0 ∷ 2 ∷ 0 ∷ 0 ∷ 0 ∷ 3 ∷ 0 ∷ 0 ∷ 0 ∷ 1 ∷ (replicate 41 0 ++ (1 ∷ []))))

pub a_slide : control_in a_control ≡ Slide 0 9 2 3 1
a_slide = refl

pub a_fill : is_filling a_control 1 ≡ true
a_fill = refl

pub zeros_say_nothing : control_in (replicate 64 0) ≡ Idle
zeros_say_nothing = refl

-- Unit 0 is a volume with blocks of two bytes, unit 1 the journal. A body writes 7 7 to block 258.
abbrev blocks : ℕ → Image
blocks gate u b =
    if u == 0 then 5 ∷ 5 ∷ []
    else if b == 1 then gate ∷ []
    else if b == 3 then 0 ∷ 0 ∷ 0 ∷ 1 ∷ 0 ∷ 0 ∷ 0 ∷ 0 ∷ 0 ∷ 0 ∷ 1 ∷ 2 ∷ []
    else if b == 4 then 7 ∷ 7 ∷ 0 ∷ 0 ∷ []
    else []

pub an_open_body_counts : overlay (λ u. 2) 1 (blocks 1) 0 258 ≡ 7 ∷ 7 ∷ []
an_open_body_counts = refl

pub its_targets_alone : overlay (λ u. 2) 1 (blocks 1) 0 257 ≡ 5 ∷ 5 ∷ []
its_targets_alone = refl

pub a_torn_gate_is_closed : overlay (λ u. 2) 1 (blocks 255) 0 258 ≡ 5 ∷ 5 ∷ []
a_torn_gate_is_closed = refl
