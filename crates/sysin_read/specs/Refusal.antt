-- The place of the first token that is wrong, where tokens spell no text, and why it is.
use Rattle.std.specs.Prelude.{◌≡◌, ◌⊎◌, ℕ, ◌+◌, Bool, true, false, List, [], ◌∷◌, ◌++◌}
use Rattle.sysin_text.specs.declared.token.Placed.{Placed}
use Rattle.sysin_text.specs.declared.token.Token.TheVariants as tokens
use Rattle.sysin_text.specs.Signs.{width_of}
use Rattle.sysin_lang.specs.Flow.{Plan}
use Rattle.sysin_read.specs.declared.fault.Why.{Why}
use Rattle.sysin_read.specs.declared.fault.Why.TheVariants as whys
use Rattle.sysin_read.specs.declared.fault.SysinFault.{SysinFault}
use Rattle.sysin_read.specs.declared.fault.SysinFault.TheVariants as faults
use Rattle.sysin_read.specs.Statement.{IsText}
use Rattle.sysin_read.specs.Told.{IsWhy}

-- with more behind them the tokens spell a text
abbrev pub CanGoOn : Bool → List Placed → Type 0
CanGoOn limited list = (rest : List Placed) × (plan : Plan) × IsText limited plan (list ++ rest)

-- they do if lists may be longer, and end with the comma behind the last entry that there may be: one more is wrong, and not the comma
pub record EndWithComma (list : List Placed) : Type 0 where
  pub front : List Placed
  pub comma : Placed
  pub sign : comma.token ≡ tokens.Comma
  pub whole : list ≡ front ++ comma ∷ []
  pub right : CanGoOn true front
  pub longer : CanGoOn false list

-- no token of these is wrong
abbrev pub Begin : List Placed → Type 0
Begin list = CanGoOn true list ⊎ EndWithComma list

-- the first token that is wrong stands in this line and column, and this is why
pub record IsWrongAt (list : List Placed) (line column : ℕ) (why : Why) : Type 0 where
  pub front : List Placed
  pub token : Placed
  pub behind : List Placed
  pub whole : list ≡ front ++ token ∷ behind
  pub line_is : line ≡ token.line
  pub column_is : column ≡ token.column
  pub right : Begin front
  pub wrong : ¬ Begin (front ++ token ∷ [])
  pub told : IsWhy front token why

-- the line of the last token and the column behind it, or the first place of all where there is none
abbrev pub end_of : List Placed → ℕ × ℕ
end_of [] = (1, 1)
end_of (last ∷ []) = (last.line, last.column + width_of last.token)
end_of (first ∷ next ∷ more) = end_of (next ∷ more)

-- no token is wrong, and the text ends too early
pub record EndsEarly (list : List Placed) (line column : ℕ) : Type 0 where
  pub line_is : line ≡ (end_of list).0
  pub column_is : column ≡ (end_of list).1
  pub right : Begin list
  pub early : (plan : Plan) → ¬ IsText true plan list

-- the tokens spell no text, for want of memory alone it may be another
abbrev pub IsRefusal : List Placed → SysinFault → Type 0
IsRefusal list (faults.BadStatement line column why) = IsWrongAt list line column why ⊎ (EndsEarly list line column × (why ≡ whys.Missing))
IsRefusal list faults.NoMemory = Unit {0}
