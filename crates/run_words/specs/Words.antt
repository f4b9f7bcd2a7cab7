-- The words of the command line: the options that they spell, and the run that these ask for.
use Rattle.std.specs.Prelude.{◌≡◌, ◌≢◌, ◌⊎◌, ℕ, ◌≤◌, Bool, if◌then◌else◌, List, [], ◌∷◌, ◌++◌, length, All, AllPairs, Option, Some, None, codes}
use Rattle.std.specs.List.{AllZip, filter_map}
use Rattle.std.specs.Str.{bytes_eq}
use Rattle.ckd_image.specs.Bytes.{Begins}
use Rattle.by_rules.specs.Words.{number_up_to}
use Rattle.dsn_filter.specs.OneQualifier.{IsQualifierText}
use Rattle.dd_names.specs.declared.dd.DdName.{DdName}
use Rattle.dd_names.specs.DdName.{dd_name_of}
use Rattle.vol_label.specs.declared.serial.Serial.{Serial}
use Rattle.vol_label.specs.Serial.{IsSerialName}
use Rattle.vol_label.specs.Serial as serials
use Rattle.run_words.specs.declared.name.Name.{Name}
use Rattle.run_words.specs.declared.name.Name.TheVariants as names
use Rattle.run_words.specs.declared.given.Given.{Given}
use Rattle.run_words.specs.declared.run.Run.{Run}
use Rattle.run_words.specs.declared.run.Run.TheVariants.{Jobs, Format, Make}

-- ---- options

-- how the name of an option is written
abbrev pub spelling : Name → List ℕ
spelling names.Unit = codes "--unit"
spelling names.Journal = codes "--journal"
spelling names.Sysin = codes "--sysin"
spelling names.Held = codes "--held"
spelling names.Out = codes "--out"
spelling names.In = codes "--in"
spelling names.FormatJournal = codes "--format-journal"
spelling names.Make = codes "--make"

-- names are the same where they are written alike
abbrev pub is_same : Name → Name → Bool
is_same name other = bytes_eq (spelling name) (spelling other)

-- a value never begins with a hyphen
abbrev pub IsValue : List ℕ → Type 0
IsValue value = ¬ Begins (codes "-") value

-- the first words spell an option, as two words `--name` and `value` or as one word `--name=value`, and these words are left
abbrev pub SpellsOne : Given → List (List ℕ) → List (List ℕ) → Type 0
SpellsOne given words left =
    IsValue given.value × ((words ≡ spelling given.name ∷ given.value ∷ left) ⊎ (words ≡ (spelling given.name ++ 61 ∷ given.value) ∷ left))

-- the words spell these options, one behind the other, and nothing else
abbrev pub Spells : List (List ℕ) → List Given → Type 0
Spells words [] = words ≡ []
Spells words (given ∷ options) = (left : List (List ℕ)) × SpellsOne given words left × Spells left options

-- the values that a name is given, in their order
abbrev pub values_of : Name → List Given → List (List ℕ)
values_of name options = filter_map (λ given. if is_same name given.name then Some given.value else None) options

-- ---- values

-- a value `NAME=PATH`, parted at its first `=`: the path isn't empty
pub record IsParted (value name path : List ℕ) : Type 0 where
  pub parts : value ≡ name ++ 61 ∷ path
  pub first : All (λ c. c ≢ 61) name
  pub some : path ≢ []

-- a value `SERIAL=PATH` names a unit
abbrev pub IsUnit : List ℕ → Serial × List ℕ → Type 0
IsUnit value unit = (name : List ℕ) × IsParted value name unit.1 × IsSerialName name × serials.Spells name unit.0.text

-- a value `DD=PATH` names a dump, in small letters or capitals
abbrev pub IsDd : List ℕ → DdName × List ℕ → Type 0
IsDd value dd = (name : List ℕ) × IsParted value name dd.1 × IsQualifierText name × (dd.0 ≡ dd_name_of name)

-- from 1 to 64 units in the order of their values, of which no two have one serial
pub record AreUnits (values : List (List ℕ)) (units : List (Serial × List ℕ)) : Type 0 where
  pub named : AllZip IsUnit values units
  pub some : 1 ≤ length units
  pub few : length units ≤ 64
  pub apart : AllPairs (λ one other. one.0 ≢ other.0) units

-- at most 16 dumps in the order of their values, of which no two have one DD name
pub record AreDds (values : List (List ℕ)) (dds : List (DdName × List ℕ)) : Type 0 where
  pub named : AllZip IsDd values dds
  pub few : length dds ≤ 16
  pub apart : AllPairs (λ one other. one.0 ≢ other.0) dds

-- one value, which is a path
pub record IsPath (values : List (List ℕ)) (path : List ℕ) : Type 0 where
  pub only : values ≡ path ∷ []
  pub some : path ≢ []

-- a path, or none
abbrev pub IsPathOrNone : List (List ℕ) → Option (List ℕ) → Type 0
IsPathOrNone values None = values ≡ []
IsPathOrNone values (Some path) = IsPath values path

-- one value, which is a number of a range in decimal digits, however many
pub record IsNumber (least most : ℕ) (values : List (List ℕ)) (number : ℕ) : Type 0 where
  pub digits : List ℕ
  pub only : values ≡ digits ∷ []
  pub spelled : number_up_to most digits ≡ Some number
  pub least_is : least ≤ number

-- ---- runs

-- none of these names is given a value
abbrev pub AreMissing : List Name → List Given → Type 0
AreMissing wanted options = All (λ name. values_of name options ≡ []) wanted

-- a run of a text
pub record IsJobs (options : List Given) (units : List (Serial × List ℕ)) (journal sysin : List ℕ) (held : Option (List ℕ)) (outs ins : List (DdName × List ℕ)) : Type 0 where
  pub units_are : AreUnits (values_of names.Unit options) units
  pub journal_is : IsPath (values_of names.Journal options) journal
  pub sysin_is : IsPath (values_of names.Sysin options) sysin
  pub held_is : IsPathOrNone (values_of names.Held options) held
  pub outs_are : AreDds (values_of names.Out options) outs
  pub ins_are : AreDds (values_of names.In options) ins
  pub no_other : AreMissing (names.FormatJournal ∷ names.Make ∷ []) options

-- a new journal: its room, units and path, and no other option
pub record IsFormat (options : List Given) (units : List (Serial × List ℕ)) (journal : List ℕ) (room : ℕ) : Type 0 where
  pub units_are : AreUnits (values_of names.Unit options) units
  pub journal_is : IsPath (values_of names.Journal options) journal
  pub room_is : IsNumber 3 8191 (values_of names.FormatJournal options) room
  pub no_other : AreMissing (names.Make ∷ names.Sysin ∷ names.Held ∷ names.Out ∷ names.In ∷ []) options

-- a sample volume: its number of data sets, and no other option
pub record IsMake (options : List Given) (number : ℕ) : Type 0 where
  pub number_is : IsNumber 1 200 (values_of names.Make options) number
  pub alone : length options ≡ 1

-- the options ask for the run
abbrev pub IsRun : List Given → Run → Type 0
IsRun options (Jobs units journal sysin held outs ins) = IsJobs options units journal sysin held outs ins
IsRun options (Format units journal room) = IsFormat options units journal room
IsRun options (Make number) = IsMake options number
