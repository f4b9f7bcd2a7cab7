-- The token that stands in front of bytes.
use Rattle.std.specs.Prelude.{ℕ, Bool, false, ◌&&◌, ◌||◌, ◌==◌, nat_le, if◌then◌else◌, List, [], ◌∷◌, length, Option, Some, None}
use Rattle.sysin_text.specs.declared.token.Token.{Token}
use Rattle.sysin_text.specs.declared.token.Token.TheVariants as tokens

-- capitals, digits, and $ # @ . * % -
abbrev pub is_word_byte : ℕ → Bool
is_word_byte byte =
    (nat_le 65 byte && nat_le byte 90) || (nat_le 48 byte && nat_le byte 57) || (byte == 36) || (byte == 35) || (byte == 64)
    || (byte == 46) || (byte == 42) || (byte == 37) || (byte == 45)

-- the bytes of a word in front, as far as they go
abbrev pub word_front : List ℕ → List ℕ
word_front [] = []
word_front (byte ∷ rest) = if is_word_byte byte then byte ∷ word_front rest else []

-- whether this byte stands in front
abbrev pub begins : ℕ → List ℕ → Bool
begins byte [] = false
begins byte (first ∷ rest) = first == byte

-- the sign that begins with `<`
abbrev pub less_of : List ℕ → Token
less_of rest = if begins 61 rest then tokens.LessOrEqual else (if begins 62 rest then tokens.NotEqual else tokens.Less)

-- the sign that begins with `>`
abbrev pub greater_of : List ℕ → Token
greater_of rest = if begins 61 rest then tokens.GreaterOrEqual else tokens.Greater

-- a sign, as long as it can be, or a byte that is none
abbrev pub sign_of : ℕ → List ℕ → Token
sign_of byte rest =
    if byte == 40 then tokens.Open
    else (if byte == 41 then tokens.Close
    else (if byte == 44 then tokens.Comma
    else (if byte == 61 then tokens.Equal
    else (if byte == 60 then less_of rest
    else (if byte == 62 then greater_of rest
    else tokens.Other byte)))))

-- the token of a byte that is no blank and what stands behind it
abbrev pub token_of : ℕ → List ℕ → Token
token_of byte rest = if is_word_byte byte then tokens.Word (byte ∷ word_front rest) else sign_of byte rest

-- the token that stands in front, where the first byte is no blank
abbrev pub front_of : List ℕ → Option Token
front_of [] = None
front_of (byte ∷ rest) = Some (token_of byte rest)

-- how many bytes a token has
abbrev pub width_of : Token → ℕ
width_of (tokens.Word word) = length word
width_of tokens.LessOrEqual = 2
width_of tokens.GreaterOrEqual = 2
width_of tokens.NotEqual = 2
width_of _ = 1
