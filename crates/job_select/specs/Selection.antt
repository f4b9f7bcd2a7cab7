-- Which data sets of a volume a filter takes.
use Rattle.std.specs.Prelude.{◌≡◌, ◌⊎◌, List, [], ◌∷◌}
use Rattle.by_rules.specs.declared.day.Day.{Day}
use Rattle.dsn_filter.specs.declared.dsn.Dsn.{Dsn}
use Rattle.dsn_filter.specs.Dsn.{IsDsn}
use Rattle.sysin_lang.specs.declared.command.Filter.{Filter}
use Rattle.volume_model.specs.Pinned.{IsNameOf}
use Rattle.volume_model.specs.Unit.{DataSet}
use Rattle.vtoc_core.specs.declared.volume.Row.{Row}
use Rattle.vtoc_core.specs.declared.volume.Volume.{Volume}
use Rattle.step_plans.specs.unit_steps.Plans.{HasRow}
use Rattle.set_facts.specs.Selection.{IsSelected, criteria_in}

-- a filter takes a data set today
abbrev pub Takes : Filter → Day → DataSet → Type 0
Takes filter today set = IsSelected filter.include filter.exclude (criteria_in filter.by) today set

-- the names of the data sets that it takes, in the order in which they stand: on a volume that is the order of names
abbrev pub Selects : Filter → Day → List DataSet → List Dsn → Type 0
Selects filter today [] names = names ≡ []
Selects filter today (set ∷ sets) names =
    (Takes filter today set × ((name : Dsn) × (more : List Dsn) × IsDsn name × IsNameOf name set.name × (names ≡ name ∷ more) × Selects filter today sets more))
    ⊎ ((¬ Takes filter today set) × Selects filter today sets names)

-- these are the names of some of a volume's rows, in the order of the rows
abbrev pub ArePicked : Volume → List Row → List Dsn → Type 0
ArePicked volume [] names = names ≡ []
ArePicked volume (row ∷ rows) names =
    ((name : Dsn) × (more : List Dsn) × (names ≡ name ∷ more) × HasRow volume name row × ArePicked volume rows more) ⊎ ArePicked volume rows names
