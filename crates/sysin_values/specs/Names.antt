-- What is read of new names so far: a prefix, or pairs.
use Rattle.std.specs.Prelude.{◌≡◌, ◌⊎◌, ℕ, List, [], ◌∷◌, Option, Some, None}
use Rattle.dsn_filter.specs.declared.dsn.Dsn.{Dsn}
use Rattle.dsn_filter.specs.declared.rename.Rename.{Rename}
use Rattle.dsn_filter.specs.declared.rename.Rename.TheVariants as renames
use Rattle.sysin_text.specs.declared.token.Token.{Token}
use Rattle.sysin_text.specs.declared.token.Token.TheVariants as tokens
use Rattle.sysin_values.specs.declared.fault.ValueFault.{ValueFault}
use Rattle.sysin_values.specs.declared.fault.ValueFault.TheVariants as faults
use Rattle.sysin_values.specs.declared.place.PairPlace.TheVariants as places
use Rattle.sysin_values.specs.Values.{SaysPrefix}
use Rattle.sysin_values.specs.NoValue.{SaysNone}
use Rattle.sysin_values.specs.Pairs.{PairProgress, pair_start, IsPairStart, IsWordToken, PairGoes, PairStops, PairReads}

pub record NameProgress : Type 0 where
  pub prefix : Option Dsn
  pub pairs : PairProgress

abbrev pub names_start : NameProgress
names_start = record { prefix = None; pairs = pair_start }

-- a word at the start is a prefix
abbrev pub IsFirstWord : NameProgress → Token → Type 0
IsFirstWord progress token = IsPairStart progress.pairs × IsWordToken token

pub record TakesPrefix (old : NameProgress) (token : Token) (new : NameProgress) : Type 0 where
  pub word : List ℕ
  pub name : Dsn
  pub nothing : old.prefix ≡ None
  pub first : IsPairStart old.pairs
  pub sign : token ≡ tokens.Word word
  pub says : SaysPrefix word name
  pub prefix : new.prefix ≡ Some name
  pub pairs : new.pairs ≡ old.pairs

pub record TakesPair (old : NameProgress) (token : Token) (new : NameProgress) : Type 0 where
  pub nothing : old.prefix ≡ None
  pub later : ¬ IsFirstWord old token
  pub pairs : PairGoes old.pairs token new.pairs
  pub prefix : new.prefix ≡ None

-- what is read with one more token, where it is right
abbrev pub NamesGo : NameProgress → Token → NameProgress → Type 0
NamesGo old token new = TakesPrefix old token new ⊎ TakesPair old token new

-- a first word that says no prefix
pub record PrefixesNone (progress : NameProgress) (token : Token) : Type 0 where
  pub word : List ℕ
  pub sign : token ≡ tokens.Word word
  pub first : IsPairStart progress.pairs
  pub none : SaysNone SaysPrefix word

-- why a token is wrong: anything behind a prefix is, a first word that says no prefix, and what is wrong among pairs
abbrev pub NamesStop : NameProgress → Token → ValueFault → Type 0
NamesStop old token fault =
    ((name : Dsn) × (old.prefix ≡ Some name) × (fault ≡ faults.Word))
    ⊎ ((old.prefix ≡ None) × (fault ≡ faults.Value) × PrefixesNone old token)
    ⊎ ((old.prefix ≡ None) × (¬ IsFirstWord old token) × PairStops old.pairs token fault)

abbrev pub HaveEnded : NameProgress → Type 0
HaveEnded progress = ((name : Dsn) × (progress.prefix ≡ Some name)) ⊎ (progress.pairs.place ≡ places.Behind)

-- the names that are read
abbrev pub rename_by : Option Dsn → PairProgress → Rename
rename_by None pairs = renames.Listed pairs.list
rename_by (Some name) pairs = renames.Prefix name

abbrev pub rename_of : NameProgress → Rename
rename_of progress = rename_by progress.prefix progress.pairs

-- the tokens that lead to this
pub record AfterPrefix (name : Dsn) (pairs : PairProgress) (text : List Token) : Type 0 where
  pub word : List ℕ
  pub text_is : text ≡ tokens.Word word ∷ []
  pub says : SaysPrefix word name
  pub first : IsPairStart pairs

abbrev pub NamesRead : NameProgress → List Token → Type 0
NamesRead progress text = ((name : Dsn) × (progress.prefix ≡ Some name) × AfterPrefix name progress.pairs text) ⊎ ((progress.prefix ≡ None) × PairReads progress.pairs text)

-- the names, where they may end
abbrev pub NamesGive : NameProgress → Rename → Type 0
NamesGive progress rename = HaveEnded progress × (rename_of progress ≡ rename)
