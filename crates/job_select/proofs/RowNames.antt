-- The names of the rows of a volume that was loaded: no two are one.
use Rattle.std.proofs.Common.{◌≡◌, ◌≢◌, ℕ, zero, suc, ◌<◌, List, [], ◌∷◌, length, map, get_or, Contains, sym, ap, subst, ◌∙◌, arith}
use Rattle.vtoc_core.specs.declared.volume.Row.{Row}
use Rattle.vtoc_layout.specs.Layout.{AreDistinct}
use Rattle.ckd_image.proofs.Lists.{contains_map}
use Rattle.step_plans.proofs.RowNames.{named}

-- rows at two places have two names
pub differ_at : (rows : List Row) (i j : ℕ) (one other : Row) → AreDistinct (map named rows) → i < j → j < length rows → get_or rows i one ≡ one → get_or rows j other ≡ other
    → one.name ≢ other.name
differ_at [] i j one other distinct less within here there same = absurd (omega (arith, within))
differ_at (row ∷ rows) i zero one other distinct less within here there same = absurd (omega (arith, less))
differ_at (row ∷ rows) zero (suc j) one other distinct less within here there same =
    distinct.0 (subst (Contains (map named rows)) (sym (ap named here ∙ same)) (contains_map named rows other (j, omega (arith, within), there)))
differ_at (row ∷ rows) (suc i) (suc j) one other distinct less within here there same =
    differ_at rows i j one other distinct.1 (omega (arith, less)) (omega (arith, within)) here there same
