-- Numbers in words.
use Rattle.std.proofs.Common.{◌≡◌, ℕ, zero, suc, ◌+◌, ◌*◌, ◌-◌, ◌<◌, ◌≤◌, List, [], ◌∷◌, take, refl, arith, Bool, true, false, nat_le, Some, None}
use Rattle.std.specs.Prelude.{fold, ◌&&◌, if◌then◌else◌}
use Rattle.std.proofs.lemmas.Bool.Decides.{nat_tests}
use Rattle.by_rules.specs.Words.{decimal, is_decimal, number_up_to}

grows : (word : List ℕ) (number : ℕ) → number ≤ fold (λ (n : ℕ) (digit : ℕ). 10 * n + (digit - 48)) number word
grows [] number = omega arith
grows (digit ∷ word) number = omega (arith, grows word (10 * number + (digit - 48)))

from-take : (word : List ℕ) (k number : ℕ) → fold (λ (n : ℕ) (digit : ℕ). 10 * n + (digit - 48)) number (take k word) ≤ fold (λ (n : ℕ) (digit : ℕ). 10 * n + (digit - 48)) number word
from-take word zero number = grows word number
from-take [] (suc k) number = omega arith
from-take (digit ∷ word) (suc k) number = from-take word k (10 * number + (digit - 48))

-- a word's first digits spell no more than all of them
pub decimal-take : (word : List ℕ) (k : ℕ) → decimal (take k word) ≤ decimal word
decimal-take word k = from-take word k 0

none_past : (b : Bool) (number limit : ℕ) → limit < number → (if b && nat_le number limit then Some number else None) ≡ None
none_past true number limit h = grind (arith, nat_tests)
none_past false number limit h = refl

pub too_large : (limit : ℕ) (word : List ℕ) → limit < decimal word → number_up_to limit word ≡ None
too_large limit word h = none_past (is_decimal word) (decimal word) limit h
