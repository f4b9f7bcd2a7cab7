-- What is read of pairs of names so far.
use Rattle.std.specs.Prelude.{◌≡◌, ◌⊎◌, ℕ, ◌≤◌, ◌<◌, List, [], ◌∷◌, ◌++◌, length}
use Rattle.dsn_filter.specs.declared.dsn.Dsn.{Dsn}
use Rattle.sysin_text.specs.declared.token.Token.{Token}
use Rattle.sysin_text.specs.declared.token.Token.TheVariants as tokens
use Rattle.sysin_values.specs.declared.fault.ValueFault.{ValueFault}
use Rattle.sysin_values.specs.declared.fault.ValueFault.TheVariants as faults
use Rattle.sysin_values.specs.declared.place.PairPlace.{PairPlace}
use Rattle.sysin_values.specs.declared.place.PairPlace.TheVariants as places
use Rattle.sysin_values.specs.Series.{IsListOf, IsBefore}
use Rattle.sysin_values.specs.Values.{SaysName, IsPair, most_entries}
use Rattle.sysin_values.specs.NoValue.{SaysNone}

-- the whole pairs, and what stands behind them
pub record PairProgress : Type 0 where
  pub list : List (Dsn × Dsn)
  pub place : PairPlace

abbrev pub pair_start : PairProgress
pair_start = record { list = []; place = places.Before }

-- nothing is read
abbrev pub IsPairStart : PairProgress → Type 0
IsPairStart progress = (progress.list ≡ []) × (progress.place ≡ places.Before)

abbrev pub IsWordToken : Token → Type 0
IsWordToken token = (word : List ℕ) × (token ≡ tokens.Word word)

-- which kind of token may stand
abbrev pub Fits : PairPlace → Token → Type 0
Fits places.Before token = token ≡ tokens.Open
Fits places.Opened token = IsWordToken token
Fits (places.Old old) token = token ≡ tokens.Comma
Fits (places.Middle old) token = IsWordToken token
Fits (places.New old new) token = token ≡ tokens.Close
Fits places.Behind token = token ≡ tokens.Comma

-- a word that says a name
pub record NamesToken (token : Token) (name : Dsn) : Type 0 where
  pub word : List ℕ
  pub sign : token ≡ tokens.Word word
  pub says : SaysName word name

-- what is read with one more token, where it is right
abbrev pub GoesFrom : PairPlace → List (Dsn × Dsn) → Token → PairProgress → Type 0
GoesFrom places.Before list token new = (token ≡ tokens.Open) × (length list < most_entries) × (new ≡ record { list = list; place = places.Opened })
GoesFrom places.Opened list token new = (old : Dsn) × NamesToken token old × (new ≡ record { list = list; place = places.Old old })
GoesFrom (places.Old old) list token new = (token ≡ tokens.Comma) × (new ≡ record { list = list; place = places.Middle old })
GoesFrom (places.Middle old) list token new = (name : Dsn) × NamesToken token name × (new ≡ record { list = list; place = places.New old name })
GoesFrom (places.New old name) list token new = (token ≡ tokens.Close) × (new ≡ record { list = list ++ (old, name) ∷ []; place = places.Behind })
GoesFrom places.Behind list token new = (token ≡ tokens.Comma) × (new ≡ record { list = list; place = places.Before })

abbrev pub PairGoes : PairProgress → Token → PairProgress → Type 0
PairGoes old token new = GoesFrom old.place old.list token new

-- a word that says no name
pub record NamesNone (token : Token) : Type 0 where
  pub word : List ℕ
  pub sign : token ≡ tokens.Word word
  pub none : SaysNone SaysName word

-- where names stand
abbrev pub WantsName : PairPlace → Type 0
WantsName place = (place ≡ places.Opened) ⊎ ((old : Dsn) × (place ≡ places.Middle old))

-- why a token is wrong
abbrev pub PairStops : PairProgress → Token → ValueFault → Type 0
PairStops old token faults.Count = (old.place ≡ places.Before) × (most_entries ≤ length old.list) × (token ≡ tokens.Open)
PairStops old token faults.Value = WantsName old.place × NamesNone token
PairStops old token faults.Word = ¬ Fits old.place token
PairStops old token faults.NoMemory = Unit {0}

-- the first tokens of a pair
abbrev pub IsBegun : PairPlace → List Token → Type 0
IsBegun places.Before text = text ≡ []
IsBegun places.Opened text = text ≡ tokens.Open ∷ []
IsBegun (places.Old old) text = (word : List ℕ) × (text ≡ tokens.Open ∷ tokens.Word word ∷ []) × SaysName word old
IsBegun (places.Middle old) text = (word : List ℕ) × (text ≡ tokens.Open ∷ tokens.Word word ∷ tokens.Comma ∷ []) × SaysName word old
IsBegun (places.New old name) text =
    (word : List ℕ) × (other : List ℕ) × (text ≡ tokens.Open ∷ tokens.Word word ∷ tokens.Comma ∷ tokens.Word other ∷ []) × SaysName word old × SaysName other name
IsBegun places.Behind text = ⊥

-- pairs, or first tokens of one more behind nothing or a comma
pub record InPair (place : PairPlace) (list : List (Dsn × Dsn)) (text : List Token) : Type 0 where
  pub front : List Token
  pub begun : List Token
  pub whole : text ≡ front ++ begun
  pub before : IsBefore IsPair list front
  pub place_is : IsBegun place begun

-- how many whole pairs there may be
abbrev pub HasRoom : PairPlace → List (Dsn × Dsn) → Type 0
HasRoom places.Before list = length list ≤ most_entries
HasRoom places.Behind list = length list ≤ most_entries
HasRoom _ list = length list < most_entries

-- the tokens that lead to this
abbrev pub PairReads : PairProgress → List Token → Type 0
PairReads progress text =
    HasRoom progress.place progress.list × (((progress.place ≡ places.Behind) × IsListOf IsPair progress.list text) ⊎ InPair progress.place progress.list text)

-- the pairs, where the list may end
abbrev pub PairsGive : PairProgress → List (Dsn × Dsn) → Type 0
PairsGive progress list = (progress.place ≡ places.Behind) × (progress.list ≡ list)
