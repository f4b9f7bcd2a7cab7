-- What words say.
use Rattle.std.specs.Prelude.{ℕ, ◌+◌, ◌*◌, ◌-◌, ◌/◌, ◌%◌, Bool, true, false, ◌&&◌, ◌||◌, ◌==◌, nat_le, if◌then◌else◌, List, [], ◌∷◌, length, fold, Option, Some, None, codes, ℤ, pos, neg_ℤ}
use Rattle.std.specs.List.{list_all}
use Rattle.std.specs.Option.{option_map, option_and_then}
use Rattle.std.specs.Str.{bytes_eq}
use Rattle.std.specs.Char.{is_ascii_digit}
use Rattle.by_rules.specs.declared.day.Day.{Day}
use Rattle.by_rules.specs.declared.row.AllocKind.{AllocKind}
use Rattle.by_rules.specs.declared.row.AllocKind.TheVariants as kinds
use Rattle.by_rules.specs.declared.criterion.Key.{Key}
use Rattle.by_rules.specs.declared.criterion.Key.TheVariants as keys
use Rattle.by_rules.specs.declared.criterion.Op.{Op}
use Rattle.by_rules.specs.declared.criterion.Op.TheVariants as ops
use Rattle.by_rules.specs.declared.criterion.Organization.{Organization}
use Rattle.by_rules.specs.declared.criterion.Organization.TheVariants as organizations
use Rattle.by_rules.specs.declared.criterion.When.TheVariants as dates
use Rattle.by_rules.specs.declared.criterion.Value.{Value}
use Rattle.by_rules.specs.declared.criterion.Value.TheVariants as values

-- the key of a criterion
abbrev pub key_of : List ℕ → Option Key
key_of word =
    if bytes_eq word (codes "DSORG") then Some keys.Organization
    else (if bytes_eq word (codes "CREDT") then Some keys.Created
    else (if bytes_eq word (codes "EXPDT") then Some keys.Expires
    else (if bytes_eq word (codes "REFDT") then Some keys.Referred
    else (if bytes_eq word (codes "EXTNT") then Some keys.Extents
    else (if bytes_eq word (codes "FSIZE") then Some keys.Tracks
    else (if bytes_eq word (codes "DSCHA") then Some keys.Changed
    else (if bytes_eq word (codes "ALLOC") then Some keys.Allocation
    else (if bytes_eq word (codes "MULTI") then Some keys.Multivolume
    else None))))))))

abbrev pub op_of : List ℕ → Option Op
op_of word =
    if bytes_eq word (codes "EQ") then Some ops.Equal
    else (if bytes_eq word (codes "NE") then Some ops.NotEqual
    else (if bytes_eq word (codes "GT") then Some ops.Greater
    else (if bytes_eq word (codes "LT") then Some ops.Less
    else (if bytes_eq word (codes "GE") then Some ops.GreaterOrEqual
    else (if bytes_eq word (codes "LE") then Some ops.LessOrEqual
    else None)))))

abbrev pub organization_of : List ℕ → Option Organization
organization_of word =
    if bytes_eq word (codes "PS") || bytes_eq word (codes "SAM") then Some organizations.Sequential
    else (if bytes_eq word (codes "DA") || bytes_eq word (codes "BDAM") then Some organizations.Direct
    else (if bytes_eq word (codes "PO") || bytes_eq word (codes "PAM") || bytes_eq word (codes "PDS") then Some organizations.Partitioned
    else (if bytes_eq word (codes "IS") || bytes_eq word (codes "ISAM") then Some organizations.IndexedSequential
    else (if bytes_eq word (codes "VSAM") then Some organizations.Vsam
    else None))))

abbrev pub flag_of : List ℕ → Option Bool
flag_of word = if bytes_eq word (codes "YES") then Some true else (if bytes_eq word (codes "NO") then Some false else None)

abbrev pub allocation_of : List ℕ → Option AllocKind
allocation_of word =
    if bytes_eq word (codes "ABSTR") then Some kinds.Absolute
    else (if bytes_eq word (codes "BLK") then Some kinds.Blocks
    else (if bytes_eq word (codes "TRK") then Some kinds.Tracks
    else (if bytes_eq word (codes "CYL") then Some kinds.Cylinders
    else None)))

-- decimal digits, as many as one likes, and the number that they spell
abbrev pub is_decimal : List ℕ → Bool
is_decimal [] = false
is_decimal word = list_all is_ascii_digit word

abbrev pub decimal : List ℕ → ℕ
decimal word = fold (λ number digit. 10 * number + (digit - 48)) 0 word

-- a number up to a limit
abbrev pub number_up_to : ℕ → List ℕ → Option ℕ
number_up_to limit word = if is_decimal word && nat_le (decimal word) limit then Some (decimal word) else None

-- the century of a year of two digits
abbrev pub full_year : ℕ → ℕ
full_year year = if nat_le 50 year then 1900 + year else 2000 + year

-- a day of a date: a place in the year, 0, or 999
abbrev pub dated : ℕ → ℕ → Option Day
dated year day = if nat_le day 366 || (day == 999) then Some (record { year = year; day = day }) else None

-- seven digits, or five: a year of four or of two, and three of its day
abbrev pub date_of : List ℕ → Option Day
date_of word =
    if length word == 7 then option_and_then (λ number. dated (number / 1000) (number % 1000)) (number_up_to 9999999 word)
    else (if length word == 5 then option_and_then (λ number. dated (full_year (number / 1000)) (number % 1000)) (number_up_to 99999 word)
    else None)

-- the days of a date from today on
abbrev pub shift_of : List ℕ → Option ℤ
shift_of [] = None
shift_of (first ∷ rest) =
    if first == 45 then option_map (λ days. neg_ℤ (pos days)) (number_up_to 36500 rest)
    else option_map (λ days. pos days) (number_up_to 36500 (first ∷ rest))

-- the value that a word says for a key
abbrev pub value_of : Key → List ℕ → Option Value
value_of keys.Organization word = option_map values.Organization (organization_of word)
value_of keys.Created word = option_map (λ day. values.Date (dates.On day)) (date_of word)
value_of keys.Expires word = option_map (λ day. values.Date (dates.On day)) (date_of word)
value_of keys.Referred word = option_map (λ day. values.Date (dates.On day)) (date_of word)
value_of keys.Extents word = option_map values.Number (number_up_to 65535 word)
value_of keys.Tracks word = option_map values.Number (number_up_to 65535 word)
value_of keys.Changed word = option_map values.Flag (flag_of word)
value_of keys.Allocation word = option_map values.Allocation (allocation_of word)
value_of keys.Multivolume word = option_map values.Flag (flag_of word)
