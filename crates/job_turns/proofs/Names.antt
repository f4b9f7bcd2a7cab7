-- Names, and those of them that are left.
use Rattle.std.proofs.Common.{◌≡◌, ◌≢◌, ℕ, ◌+◌, ◌<◌, length, drop, get_or, ◌==◌, true, false, ◌∙◌, arith, List, [], ◌∷◌, refl, sym, ap}
use Rattle.std.proofs.Math.Numerals.{add-one}
use Rattle.std.proofs.Math.Seq.{drop-cons}
use Rattle.std.proofs.lemmas.Bool.{eqb-true, false≢true}
use Rattle.dsn_filter.specs.declared.dsn.Dsn.{Dsn}

-- ---- whether there are names

pub no_names : (names : List Dsn) (count : ℕ) → count ≡ length names → (count == 0) ≡ true → names ≡ []
no_names [] count long is = refl
no_names (name ∷ names) count long is = absurd (omega (arith, long, eqb-true count 0 is))

pub some_names : (names : List Dsn) (count : ℕ) → count ≡ length names → (count == 0) ≡ false → names ≢ []
some_names names count long is none = false≢true (sym is ∙ ap (λ (n : ℕ). n == 0) (long ∙ ap (λ (list : List Dsn). length list) none))

-- ---- the next one

pub first_left : (names : List Dsn) (index : ℕ) (d : Dsn) → index < length names → drop index names ≡ get_or names index d ∷ drop (index + 1) names
first_left names index d less = drop-cons names index d less ∙ ap (λ (n : ℕ). get_or names index d ∷ drop n names) (sym (add-one index))
