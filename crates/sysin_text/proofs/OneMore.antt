-- A text that is known, and what comes behind it.
use Rattle.std.proofs.Common.{◌≡◌, List, [], ◌∷◌, ◌++◌, ap, ◌∙◌, append_assoc}
use Rattle.sysin_text.specs.declared.token.Token.{Token}

pub one_more : (text known : List Token) (token sign : Token) → text ≡ known → token ≡ sign → text ++ token ∷ [] ≡ known ++ sign ∷ []
one_more text known token sign e f = ap (λ (t : List Token). t ++ token ∷ []) e ∙ ap (λ (s : Token). known ++ s ∷ []) f

pub with_rest : (text known rest : List Token) → text ≡ known → text ++ rest ≡ known ++ rest
with_rest text known rest e = ap (λ (t : List Token). t ++ rest) e

pub more_behind : (text front rest : List Token) (token : Token) → text ≡ front ++ rest → text ++ token ∷ [] ≡ front ++ (rest ++ token ∷ [])
more_behind text front rest token e = with_rest text (front ++ rest) (token ∷ []) e ∙ append_assoc front rest (token ∷ [])
