-- Whether a data set has a name.
use Rattle.std.proofs.Common.{◌≡◌, ℕ, List, sym, subst, Option, Some, None, true, false}
use Rattle.std.specs.Prelude.{IfSome, IfNone}
use Rattle.std.specs.Option.{is_some}
use Rattle.std.proofs.lemmas.Bool.{false≢true}
use Rattle.dsn_filter.specs.declared.dsn.Dsn.{Dsn}
use Rattle.dsn_filter.specs.Dsn.{IsDsn}
use Rattle.volume_model.specs.Pinned.{IsNameOf, HasName}
use Rattle.volume_model.specs.Unit.{DataSet}

module _ (set : DataSet) (name : List ℕ) (is : set.name ≡ name) where
  pub no_name : (found : Option Dsn) → is_some found ≡ false → IfNone found ((dsn : Dsn) → IsDsn dsn → ¬ IsNameOf dsn name) → ¬ HasName set.name
  no_name None none h named = h named.0 named.1 (subst (IsNameOf named.0) is named.2)
  no_name (Some dsn) none h named = false≢true (sym none)

  pub has_name : (found : Option Dsn) → is_some found ≡ true → IfSome found (λ dsn. IsDsn dsn × IsNameOf dsn name) → HasName set.name
  has_name (Some dsn) some h = (dsn, h.0, subst (IsNameOf dsn) (sym is) h.1)
  has_name None some h = absurd (false≢true some)
