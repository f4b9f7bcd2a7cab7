-- What stands in filtered lists, and first in a list.
use Rattle.std.proofs.Common.{◌≡◌, ◌⊎◌, List, [], filter, Bool, true, false, Option, Some, None, Contains, subst, inl, inr}
use Rattle.std.proofs.lemmas.Bool.{cases_Bool}
use Rattle.volume_model.specs.declared.place.Placed.{Placed}
use Rattle.volume_model.specs.Check.{or_else}
use Rattle.vtoc_layout.proofs.Distinct.{in_none, in_filter}

-- nothing passes a test that keeps nothing
pub none_of : {X : Type 0} (test : X → Bool) (xs : List X) → filter test xs ≡ [] → (x : X) → Contains xs x → test x ≡ false
none_of {X} test xs none x h = by (cases_Bool (test x))
  where
    by : ((test x ≡ true) ⊎ (test x ≡ false)) → test x ≡ false
    by (inl is) = let P : List X → Type 0 = λ ys. Contains ys x in absurd (in_none x (subst P none (in_filter test xs x h is)))
    by (inr other) = other

-- ---- the first of a list

pub either_first : (a b : Option Placed) (x : Placed) → or_else a b ≡ Some x → (a ≡ Some x) ⊎ (b ≡ Some x)
either_first None b x e = inr e
either_first (Some a) b x e = inl e
