-- The blocks of a journal unit. Numbers stand with the highest byte first.
use Rattle.std.specs.Prelude.{ℕ, zero, suc, ◌+◌, ◌==◌, List, [], ◌∷◌, ◌++◌, length, take, drop, replicate, codes, slice_index, Bool, if◌then◌else◌}
use Rattle.std.specs.List.{flat_map}
use Rattle.byteorder.specs.Endian.{big_bytes, big_number}
use Rattle.vol_label.specs.declared.serial.Serial.{Serial}
use Rattle.redo_core.specs.declared.control.Control.{Control}
use Rattle.redo_core.specs.declared.control.Control.TheVariants.{Idle, Slide}
use Rattle.redo_core.specs.declared.target.Target.{Target}

-- the number in four bytes at a place
abbrev pub number_at : ℕ → List ℕ → ℕ
number_at place block = big_number 4 (drop place block)

-- the head: the magic, and at 12 the size of a block, lowest byte first
abbrev pub head_text : List ℕ
head_text = codes "ADRJRNL1" ++ (replicate 6 0 ++ (1 ∷ replicate 497 0))

-- the bytes of a block
abbrev pub wide : ℕ
wide = 65536

abbrev pub registration_magic : List ℕ
registration_magic = codes "ADRREG01"

-- block 0, the registration: magic, number of volumes, room, and the volumes' serials
abbrev pub registration_text : List Serial → ℕ → List ℕ
registration_text names room = registration_magic ++ (big_bytes 4 (length names) ++ (big_bytes 4 room ++ flat_map (λ name. name.text) names))

-- the number of volumes that it says, the room, and so many serials from the front of these bytes
abbrev pub count_in : List ℕ → ℕ
count_in block = number_at 8 block

abbrev pub room_in : List ℕ → ℕ
room_in block = number_at 12 block

abbrev pub serials_in : ℕ → List ℕ → List Serial
serials_in zero bytes = []
serials_in (suc n) bytes = record { text = take 6 bytes } ∷ serials_in n (drop 6 bytes)

-- block 1, the gate
abbrev pub is_open : List ℕ → Bool
is_open gate = slice_index gate 0 == 1

-- block 2, the control: byte 0 says whether a slide is open
abbrev pub control_in : List ℕ → Control
control_in block =
    if slice_index block 0 == 1 then Slide (number_at 4 block) (number_at 8 block) (number_at 12 block) (number_at 16 block) (number_at 20 block) else Idle

-- the front of a control block that says this
abbrev pub control_text : Control → List ℕ
control_text Idle = replicate 24 0
control_text (Slide unit from to len done) =
    1 ∷ replicate 3 0 ++ (big_bytes 4 unit ++ (big_bytes 4 from ++ (big_bytes 4 to ++ (big_bytes 4 len ++ big_bytes 4 done))))

-- and byte 64 + u says whether a fill of volume u is
abbrev pub is_filling : List ℕ → ℕ → Bool
is_filling block u = slice_index block (64 + u) == 1

-- block 3, the directory: the number of targets, and the targets
abbrev pub target_text : Target → List ℕ
target_text target = big_bytes 4 target.unit ++ big_bytes 4 target.block

abbrev pub directory_text : List Target → List ℕ
directory_text targets = big_bytes 4 (length targets) ++ flat_map target_text targets

-- so many targets from the front of these bytes
abbrev pub targets_in : ℕ → List ℕ → List Target
targets_in zero bytes = []
targets_in (suc n) bytes = record { unit = number_at 0 bytes; block = number_at 4 bytes } ∷ targets_in n (drop 8 bytes)

abbrev pub directory_in : List ℕ → List Target
directory_in block = targets_in (number_at 0 block) (drop 4 block)
