-- Which data sets a command selects.
use Rattle.std.specs.Prelude.{◌≡◌, ◌⊎◌, ℕ, List, [], All, Any, Option, Some, None}
use Rattle.by_rules.specs.declared.criterion.Criterion.{Criterion}
use Rattle.by_rules.specs.declared.day.Day.{Day}
use Rattle.by_rules.specs.declared.row.RowFacts.{RowFacts}
use Rattle.by_rules.specs.Criterion.{Holds}
use Rattle.dsn_filter.specs.Matching.{Matches}
use Rattle.dsn_filter.specs.Dsn.{qualifiers_of, IsDsn}
use Rattle.dsn_filter.specs.declared.dsn.Dsn.{Dsn}
use Rattle.volume_model.specs.Unit.{DataSet}
use Rattle.volume_model.specs.Pinned.{IsNameOf}
use Rattle.set_facts.specs.Facts.{facts_of}

-- some pattern of a list stands for a name
abbrev pub IsNamedBy : List (List (List ℕ)) → Dsn → Type 0
IsNamedBy patterns name = Any (λ pattern. Matches pattern (qualifiers_of name)) patterns

-- a list of INCLUDE takes a name: some pattern stands for it, or there is none
abbrev pub IsIncluded : List (List (List ℕ)) → Dsn → Type 0
IsIncluded patterns name = (patterns ≡ []) ⊎ IsNamedBy patterns name

-- the criteria of BY, where it is given
abbrev pub criteria_in : Option (List Criterion) → List Criterion
criteria_in None = []
criteria_in (Some criteria) = criteria

-- A name with these facts passes a filter: INCLUDE takes it, no pattern of EXCLUDE stands for it, and each criterion of BY holds today.
pub record Passes (include exclude : List (List (List ℕ))) (by : List Criterion) (today : Day) (name : Dsn) (facts : RowFacts) : Type 0 where
  pub included : IsIncluded include name
  pub not_excluded : ¬ IsNamedBy exclude name
  pub holds : All (λ criterion. Holds criterion facts today) by

-- a filter selects a data set whose name is a data set name and passes
pub record IsSelected (include exclude : List (List (List ℕ))) (by : List Criterion) (today : Day) (set : DataSet) : Type 0 where
  pub name : Dsn
  pub lawful : IsDsn name
  pub name_is : IsNameOf name set.name
  pub passes : Passes include exclude by today name (facts_of set)
