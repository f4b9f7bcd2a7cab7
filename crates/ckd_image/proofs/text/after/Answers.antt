use Rattle.std.proofs.Common.{◌≡◌, ℕ, List, ◌++◌, Option, Some, None, Bor}
use Rattle.std.specs.Prelude.{MatchOption, IfSome, IfNone}
use Rattle.std.proofs.lemmas.Bool.Decides.{Decides-eqb}
use Rattle.std.proofs.lemmas.Slice.Eq.{strip_prefix_is}
use Rattle.ckd_image.specs.Bytes.{Begins}
use Rattle.ckd_image.proofs.text.after.Goals as goal

found : (s p : List ℕ) (r : Option (Bor (List ℕ))) → MatchOption r ((rest : List ℕ) → s ≡ p ++ rest → ⊥) (λ x. s ≡ p ++ x.now) → IfSome r (λ x. s ≡ p ++ x.now)
found s p None h = tt
found s p (Some x) h = h

none : (s p : List ℕ) (r : Option (Bor (List ℕ))) → MatchOption r ((rest : List ℕ) → s ≡ p ++ rest → ⊥) (λ x. s ≡ p ++ x.now) → IfNone r (¬ Begins p s)
none s p None h = λ b. h b.0 b.1
none s p (Some x) h = tt

pub returns-clause-found : goal.returns-clause-found
returns-clause-found c = found _ _ _ (strip_prefix_is Decides-eqb c.args.bytes.now c.args.prefix.now c.strip_prefix.result c.strip_prefix.ensures.cases)

pub returns-clause-none : goal.returns-clause-none
returns-clause-none c = none _ _ _ (strip_prefix_is Decides-eqb c.args.bytes.now c.args.prefix.now c.strip_prefix.result c.strip_prefix.ensures.cases)
