-- The part of code page 037 that names and serials are written in.
use Rattle.std.specs.Prelude.{ℕ, ◌+◌, ◌-◌, Bool, ◌&&◌, ◌==◌, nat_le, if◌then◌else◌, Option, Some, None}

-- the byte is within these two
abbrev pub is_between : ℕ → ℕ → ℕ → Bool
is_between low high byte = nat_le low byte && nat_le byte high

-- The ASCII character of a byte: letters and digits in their ranges, and $ # @ . - and the blank.
abbrev pub ascii_of : ℕ → Option ℕ
ascii_of byte =
    if is_between 0xC1 0xC9 byte then Some (65 + (byte - 0xC1))
    else if is_between 0xD1 0xD9 byte then Some (74 + (byte - 0xD1))
    else if is_between 0xE2 0xE9 byte then Some (83 + (byte - 0xE2))
    else if is_between 0xF0 0xF9 byte then Some (48 + (byte - 0xF0))
    else if byte == 0x5B then Some 36
    else if byte == 0x7B then Some 35
    else if byte == 0x7C then Some 64
    else if byte == 0x4B then Some 46
    else if byte == 0x60 then Some 45
    else if byte == 0x40 then Some 32
    else None
