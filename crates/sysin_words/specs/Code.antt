-- Condition codes, and how they are compared.
use Rattle.std.specs.Prelude.{ℕ, if◌then◌else◌, List, Option, Some, None, codes}
use Rattle.std.specs.Str.{bytes_eq}
use Rattle.by_rules.specs.declared.criterion.Op.{Op}
use Rattle.by_rules.specs.declared.criterion.Op.TheVariants as ops
use Rattle.by_rules.specs.Words.{op_of as op_word}
use Rattle.sysin_text.specs.declared.token.Token.{Token}
use Rattle.sysin_text.specs.declared.token.Token.TheVariants as tokens
use Rattle.sysin_words.specs.declared.code.Which.{Which}
use Rattle.sysin_words.specs.declared.code.Which.TheVariants as whiches

abbrev pub which_of : List ℕ → Option Which
which_of word =
    if bytes_eq word (codes "LASTCC") then Some whiches.Last else (if bytes_eq word (codes "MAXCC") then Some whiches.Max else None)

-- a code has one spelling
abbrev pub code_of : List ℕ → Option ℕ
code_of word =
    if bytes_eq word (codes "0") then Some 0
    else (if bytes_eq word (codes "4") then Some 4
    else (if bytes_eq word (codes "8") then Some 8
    else (if bytes_eq word (codes "12") then Some 12
    else None)))

-- a comparison is a word or a sign
abbrev pub op_of : Token → Option Op
op_of tokens.Equal = Some ops.Equal
op_of tokens.NotEqual = Some ops.NotEqual
op_of tokens.Greater = Some ops.Greater
op_of tokens.Less = Some ops.Less
op_of tokens.GreaterOrEqual = Some ops.GreaterOrEqual
op_of tokens.LessOrEqual = Some ops.LessOrEqual
op_of (tokens.Word word) = op_word word
op_of _ = None
