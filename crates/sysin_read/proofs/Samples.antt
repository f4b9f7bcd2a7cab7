-- Samples of the grammar, worked by hand.
use Rattle.std.proofs.Common.{◌≡◌, ℕ, true, false, List, [], ◌∷◌, ◌++◌, refl, Bool, arith}
use Rattle.std.specs.Prelude.{codes}
use Rattle.std.proofs.lemmas.List.Elements.{All-from_recursion}
use Rattle.by_rules.specs.declared.criterion.Op.TheVariants as ops
use Rattle.sysin_text.specs.declared.token.Token.{Token}
use Rattle.sysin_text.specs.declared.token.Token.TheVariants.{Word, Equal, Less}
use Rattle.sysin_text.specs.declared.token.Placed.{Placed}
use Rattle.sysin_words.specs.declared.code.Which.TheVariants as whiches
use Rattle.sysin_lang.specs.Flow.{Plan, Done, Set, Choose}
use Rattle.sysin_read.specs.Statement.{StartNone, tokens_of, IsText, set, if_alone, do_end, none, more}
use Rattle.sysin_read.specs.Refusal.{end_of}

abbrev at : Token → ℕ → ℕ → Bool → Placed
at token line column starts = record { token = token; line = line; column = column; starts = starts }

-- SET LASTCC = 4
abbrev set_line : List Placed
set_line = at (Word (codes "SET")) 1 1 true ∷ at (Word (codes "LASTCC")) 1 5 false ∷ at Equal 1 12 false ∷ at (Word (codes "4")) 1 14 false ∷ []

-- IF MAXCC < 8 THEN
abbrev if_line : List Placed
if_line = at (Word (codes "IF")) 2 1 true ∷ at (Word (codes "MAXCC")) 2 4 false ∷ at Less 2 10 false ∷ at (Word (codes "8")) 2 12 false ∷ at (Word (codes "THEN")) 2 14 false ∷ []

one_line : (a b c : Placed) → a.starts ≡ false → b.starts ≡ false → c.starts ≡ false → StartNone (a ∷ b ∷ c ∷ [])
one_line a b c p q r = All-from_recursion (λ (placed : Placed). placed.starts ≡ false) (a ∷ b ∷ c ∷ []) (p, (q, (r, tt)))

one_line_of_five : (a b c d : Placed) → a.starts ≡ false → b.starts ≡ false → c.starts ≡ false → d.starts ≡ false → StartNone (a ∷ b ∷ c ∷ d ∷ [])
one_line_of_five a b c d p q r s = All-from_recursion (λ (placed : Placed). placed.starts ≡ false) (a ∷ b ∷ c ∷ d ∷ []) (p, (q, (r, (s, tt))))

-- SET LASTCC = 4, in the next line IF MAXCC < 8 THEN DO, and in a further one END
pub set_and_if : IsText true (Set whiches.Last 4 (Choose whiches.Max ops.Less 8 Done Done))
    (set_line ++ ((if_line ++ (at (Word (codes "DO")) 2 19 false ∷ ([] ++ at (Word (codes "END")) 3 1 true ∷ []))) ++ []))
set_and_if =
    let rest : Plan = Choose whiches.Max ops.Less 8 Done Done in
    let end : Placed = at (Word (codes "END")) 3 1 true in
    let do' : Placed = at (Word (codes "DO")) 2 19 false in
    record {
      count = 0;
      block = more 16 0 0 0 true (Set whiches.Last 4 rest) rest Done set_line ((if_line ++ (do' ∷ ([] ++ end ∷ []))) ++ [])
          (set 16 0 whiches.Last 4 rest set_line (tokens_of set_line) (one_line _ _ _ refl refl refl, refl) (codes "SET", codes "LASTCC", codes "4", refl, refl, refl, refl))
          refl
          (more 16 0 0 0 false rest Done Done (if_line ++ (do' ∷ ([] ++ end ∷ []))) []
          (if_alone 15 0 0 true whiches.Max ops.Less 8 Done Done if_line (do' ∷ ([] ++ end ∷ [])) (tokens_of if_line) (one_line_of_five _ _ _ _ refl refl refl refl, refl)
          (codes "IF", codes "MAXCC", Less, codes "8", codes "THEN", refl, refl, refl, refl, refl, refl)
          (do_end 14 0 0 Done Done do' end [] (codes "DO", refl, refl) (none 14 0 Done) (codes "END", refl, refl)))
          tt
          (none 16 0 Done));
      few = omega arith;
    }

-- the place behind the last token of these
pub place_behind : end_of set_line ≡ (1, 15)
place_behind = refl
