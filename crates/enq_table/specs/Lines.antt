-- Words of the reading of lines.
use Rattle.std.specs.Prelude.{◌≡◌, ℕ, List, [], ◌∷◌, ◌++◌, Option, Some, None}
use Rattle.std.specs.Borrow.{Bor}
use Rattle.dsn_filter.specs.Text.{capitals}
use Rattle.dsn_filter.specs.Dsn.{text_of}
use Rattle.enq_table.specs.declared.hold.Mode.{Mode}
use Rattle.enq_table.specs.declared.hold.Hold.{Hold}
use Rattle.enq_table.specs.Holder.{holder_text}
use Rattle.enq_table.specs.Table.{IsHold}
use Rattle.enq_table.specs.HeldText.{lines_of, mode_text}

-- the lines of a text, and none where there is no text
abbrev pub lines_behind : Option (Bor (List ℕ)) → List (List ℕ)
lines_behind None = []
lines_behind (Some text) = lines_of text.now

-- a text is a mode and a blank, and then this
abbrev pub IsModeAnd : List ℕ → Mode → List ℕ → Type 0
IsModeAnd text mode rest = (front : List ℕ) × (text ≡ front ++ rest) × (capitals front ≡ mode_text mode ++ (32 ∷ []))

-- a text is the name and the holder of a hold
pub record IsHoldTail (text : List ℕ) (hold : Hold) : Type 0 where
  pub lawful : IsHold hold
  pub spells : capitals text ≡ text_of hold.name ++ (32 ∷ holder_text hold.holder)

-- a text is the name and the holder of some hold
abbrev pub IsTail : List ℕ → Type 0
IsTail text = (hold : Hold) × IsHoldTail text hold

-- a text is cut at its first blank
abbrev pub IsCut : List ℕ → List ℕ → Option (Bor (List ℕ)) → Type 0
IsCut text word None = text ≡ word
IsCut text word (Some rest) = text ≡ word ++ (32 ∷ rest.now)
