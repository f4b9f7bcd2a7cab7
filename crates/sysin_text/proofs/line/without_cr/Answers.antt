use Rattle.std.proofs.Common.{◌≡◌, ◌++◌, ◌∷◌, ◌≢◌, [], List, ℕ, sym, ap, ◌∙◌, Option, Some, None, Bor}
use Rattle.std.specs.Prelude.{MatchOption}
use Rattle.std.proofs.lemmas.Bool.Decides.{Decides-eqb}
use Rattle.std.proofs.lemmas.Slice.Eq.{strip_suffix_is}
use Rattle.sysin_text.specs.Lines.{without_cr}
use Rattle.sysin_text.proofs.Splits.{cr_ended, not_cr_ended}
use Rattle.sysin_text.proofs.line.without_cr.Goals as goal

found : (line : List ℕ) (r : Option (Bor (List ℕ))) (front : Bor (List ℕ)) → MatchOption r ((front : List ℕ) → line ≢ front ++ 13 ∷ []) (λ x. line ≡ x.now ++ 13 ∷ []) → r ≡ Some front
    → front.now ≡ without_cr line
found line None front h e = cc
found line (Some x) front h e = let same : x ≡ front = cc in ap (λ (b : Bor (List ℕ)). b.now) (sym same) ∙ sym (ap without_cr h ∙ cr_ended x.now)

none : (line : List ℕ) (r : Option (Bor (List ℕ))) → MatchOption r ((front : List ℕ) → line ≢ front ++ 13 ∷ []) (λ x. line ≡ x.now ++ 13 ∷ []) → r ≡ None → line ≡ without_cr line
none line None h e = sym (not_cr_ended line h)
none line (Some x) h e = cc

pub returns-in-Some : goal.returns-in-Some
returns-in-Some c = found c.args.line.now c.strip_suffix.result c.in-Some.front (strip_suffix_is Decides-eqb c.args.line.now (13 ∷ []) c.strip_suffix.result c.strip_suffix.ensures.cases) c.in-Some.is

pub returns-in-None : goal.returns-in-None
returns-in-None c = none c.args.line.now c.strip_suffix.result (strip_suffix_is Decides-eqb c.args.line.now (13 ∷ []) c.strip_suffix.result c.strip_suffix.ensures.cases) c.in-None.is
