-- Samples of the definitions, worked by hand.
use Rattle.std.proofs.Common.{◌≡◌, ℕ, true, false, List, [], ◌∷◌, ◌++◌, refl}
use Rattle.std.specs.Prelude.{codes, replicate, Bool}
use Rattle.sysin_text.specs.declared.token.Token.{Token}
use Rattle.sysin_text.specs.declared.token.Token.TheVariants as tokens
use Rattle.sysin_text.specs.declared.token.Placed.{Placed}
use Rattle.sysin_text.specs.Lines.{lines_of}
use Rattle.sysin_text.specs.Cleaning.{cleaned, read_of, goes_on}
use Rattle.sysin_text.specs.Tokens.{tokens_of}

-- ---- lines

no_line : lines_of [] ≡ []
no_line = refl

one_line : lines_of (codes "AB") ≡ codes "AB" ∷ []
one_line = refl

ended_line : lines_of (codes "AB" ++ 10 ∷ []) ≡ codes "AB" ∷ []
ended_line = refl

-- a CR goes only right before a line feed, and only one
cr_line : lines_of (65 ∷ 13 ∷ 13 ∷ 10 ∷ 13 ∷ 10 ∷ 10 ∷ 66 ∷ 13 ∷ []) ≡ (65 ∷ 13 ∷ []) ∷ [] ∷ [] ∷ (66 ∷ 13 ∷ []) ∷ []
cr_line = refl

-- ---- comments

a_comment : cleaned (codes "a/* b */c") ≡ codes "A       C"
a_comment = refl

-- the shortest one, and one that isn't ended
short_comment : cleaned (codes "/**//*/") ≡ codes "    /*/"
short_comment = refl

slash_comment : cleaned (codes "/*/*/*/") ≡ codes "     */"
slash_comment = refl

a_tab : cleaned (65 ∷ 9 ∷ 97 ∷ []) ≡ codes "A A"
a_tab = refl

-- what is past column 72 is not read, so it ends no comment
long_line : cleaned (replicate 70 65 ++ codes "/**/") ≡ replicate 70 65 ++ codes "/*"
long_line = refl

-- ---- lines that go on

mark : read_of (codes "ab -  ") ≡ codes "AB"
mark = refl

mark_goes_on : goes_on (codes "ab -  ") ≡ true
mark_goes_on = refl

mark_before_comment : goes_on (codes "ab - /* x */") ≡ true
mark_before_comment = refl

mark_behind_comment : goes_on (codes "ab/**/-") ≡ true
mark_behind_comment = refl

first_column : goes_on (codes "-") ≡ false
first_column = refl

of_a_word : goes_on (codes "AB-") ≡ false
of_a_word = refl

mark_past_72 : goes_on (replicate 71 65 ++ codes " -") ≡ false
mark_past_72 = refl

-- ---- tokens

abbrev at : Token → ℕ → ℕ → Bool → Placed
at token line column starts = record { token = token; line = line; column = column; starts = starts }

abbrev word : List ℕ → ℕ → ℕ → Bool → Placed
word bytes = at (tokens.Word bytes)

words : tokens_of (codes " a.B*%-1$#@,(x)") ≡
    word (codes "A.B*%-1$#@") 1 2 true ∷ at tokens.Comma 1 12 false ∷ at tokens.Open 1 13 false ∷ word (codes "X") 1 14 false ∷ at tokens.Close 1 15 false ∷ []
words = refl

-- a sign is as long as it can be
signs : tokens_of (codes "<>=<==>><") ≡
    at tokens.NotEqual 1 1 true ∷ at tokens.Equal 1 3 false ∷ at tokens.LessOrEqual 1 4 false ∷ at tokens.Equal 1 6 false
    ∷ at tokens.Greater 1 7 false ∷ at tokens.Greater 1 8 false ∷ at tokens.Less 1 9 false ∷ []
signs = refl

-- two lines that are one, and a third
three_lines : tokens_of (codes "A -" ++ 10 ∷ codes " B" ++ 10 ∷ codes "C") ≡ word (codes "A") 1 1 true ∷ word (codes "B") 2 2 false ∷ word (codes "C") 3 1 true ∷ []
three_lines = refl

-- an empty line ends one that goes on
empty_line : tokens_of (codes "A -" ++ 10 ∷ 10 ∷ codes "B") ≡ word (codes "A") 1 1 true ∷ word (codes "B") 3 1 true ∷ []
empty_line = refl

-- a mark on a line without tokens
lone_mark : tokens_of (codes "A" ++ 10 ∷ codes " -" ++ 10 ∷ codes "B -") ≡ word (codes "A") 1 1 true ∷ word (codes "B") 3 1 true ∷ []
lone_mark = refl

others : tokens_of (codes "A/*B!" ++ 13 ∷ []) ≡
    word (codes "A") 1 1 true ∷ at (tokens.Other 47) 1 2 false ∷ word (codes "*B") 1 3 false ∷ at (tokens.Other 33) 1 5 false ∷ at (tokens.Other 13) 1 6 false ∷ []
others = refl
