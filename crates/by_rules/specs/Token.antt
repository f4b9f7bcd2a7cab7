-- The tokens of a text.
use Rattle.std.specs.Prelude.{◌≡◌, ◌≢◌, ℕ, Bool, true, false, ◌==◌, if◌then◌else◌, List, [], ◌∷◌}
use Rattle.std.specs.List.{flat_map, list_all}
use Rattle.sysin_text.specs.Signs.{is_word_byte}
use Rattle.by_rules.specs.declared.token.Token.{Token as Read}
use Rattle.by_rules.specs.declared.token.Token.TheVariants as tokens

-- a token: a bracket, a comma, a word, or any other byte
pub data Symbol : Type 0 where
  Open : Symbol
  Close : Symbol
  Comma : Symbol
  Word : List ℕ → Symbol
  Other : ℕ → Symbol

-- the token that a byte is by itself, where it is none of a word
abbrev pub sign_of : ℕ → Symbol
sign_of byte = if byte == 40 then Open else (if byte == 41 then Close else (if byte == 44 then Comma else Other byte))

-- a byte in front of a text joins the word with which the text begins
abbrev pub put_front : ℕ → List Symbol → List Symbol
put_front byte (Word word ∷ rest) = if is_word_byte byte then Word (byte ∷ word) ∷ rest else sign_of byte ∷ Word word ∷ rest
put_front byte rest = (if is_word_byte byte then Word (byte ∷ []) else sign_of byte) ∷ rest

-- the tokens of a text, the words as long as they can be
abbrev pub tokens_of : List ℕ → List Symbol
tokens_of [] = []
tokens_of (byte ∷ text) = put_front byte (tokens_of text)

-- the bytes of a token
abbrev pub bytes_of : Symbol → List ℕ
bytes_of Open = 40 ∷ []
bytes_of Close = 41 ∷ []
bytes_of Comma = 44 ∷ []
bytes_of (Word word) = word
bytes_of (Other byte) = byte ∷ []

-- the bytes of tokens, one after the other
abbrev pub text_of : List Symbol → List ℕ
text_of symbols = flat_map bytes_of symbols

-- a token as it is read
abbrev pub symbol_of : Read → Symbol
symbol_of tokens.Open = Open
symbol_of tokens.Close = Close
symbol_of tokens.Comma = Comma
symbol_of (tokens.Word word) = Word word.now
symbol_of (tokens.Other byte) = Other byte

-- whether a text begins with a word
abbrev pub begins_word : List ℕ → Bool
begins_word [] = false
begins_word (byte ∷ text) = is_word_byte byte

-- a word has a byte at least and no byte that is none of a word; any other byte is neither of a word nor a sign
abbrev pub IsToken : Symbol → Type 0
IsToken (Word word) = (word ≢ []) × (list_all is_word_byte word ≡ true)
IsToken (Other byte) = (is_word_byte byte ≡ false) × (byte ≢ 40) × (byte ≢ 41) × (byte ≢ 44)
IsToken _ = Unit {0}

abbrev pub BeginWithNoWord : List Symbol → Type 0
BeginWithNoWord (Word word ∷ rest) = ⊥
BeginWithNoWord _ = Unit {0}

-- no word stands right behind a word
abbrev pub AreApart : List Symbol → Type 0
AreApart [] = Unit {0}
AreApart (Word word ∷ rest) = BeginWithNoWord rest × AreApart rest
AreApart (symbol ∷ rest) = AreApart rest
