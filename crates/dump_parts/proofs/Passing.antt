-- A filter passes a part by its one name.
use Rattle.std.proofs.Common.{◌≡◌, ◌↔◌, ℕ, List, Bool, take, sym, subst}
use Rattle.std.specs.Prelude.{IsTrue}
use Rattle.by_rules.specs.declared.day.Day.{Day}
use Rattle.by_rules.specs.declared.row.RowFacts.{RowFacts}
use Rattle.dsn_filter.specs.declared.dsn.Dsn.{Dsn}
use Rattle.dsn_filter.specs.Dsn.{IsDsn}
use Rattle.set_facts.specs.Facts.{facts_from}
use Rattle.set_facts.specs.Selection as selection
use Rattle.sysin_lang.specs.declared.command.Filter.{Filter}
use Rattle.volume_model.specs.Pinned.{IsNameOf}
use Rattle.volume_model.specs.Reads.{fields_of_1}
use Rattle.job_select.proofs.OneName.{one_named}
use Rattle.dump_parts.specs.Taken.{Passes}

pub passes_where : (filter : Filter) (today : Day) (f1 : List ℕ) (tracks : ℕ) (name : Dsn) (found : Bool) (include exclude : List (List (List ℕ))) (facts : RowFacts)
    → IsDsn name → IsNameOf name (take 44 f1) → include ≡ filter.include → exclude ≡ filter.exclude → facts ≡ facts_from (fields_of_1 f1) 0 tracks
    → (IsTrue found ↔ selection.Passes include exclude (selection.criteria_in filter.by) today name facts) → (IsTrue found ↔ Passes filter today f1 tracks)
passes_where filter today f1 tracks name found include exclude facts lawful named include_is exclude_is facts_are where_passes =
    (λ t. record { name = name; lawful = lawful; name_is = named; passes = to (where_passes.0 t) }, λ is. where_passes.1 (from (of_name is)))
  where
    of_name : Passes filter today f1 tracks → selection.Passes filter.include filter.exclude (selection.criteria_in filter.by) today name (facts_from (fields_of_1 f1) 0 tracks)
    of_name is =
        subst (λ (n : Dsn). selection.Passes filter.include filter.exclude (selection.criteria_in filter.by) today n (facts_from (fields_of_1 f1) 0 tracks))
        (one_named (take 44 f1) is.name name is.lawful lawful is.name_is named) is.passes

    to : selection.Passes include exclude (selection.criteria_in filter.by) today name facts
        → selection.Passes filter.include filter.exclude (selection.criteria_in filter.by) today name (facts_from (fields_of_1 f1) 0 tracks)
    to is = rw (sym include_is, sym exclude_is, sym facts_are) is

    from : selection.Passes filter.include filter.exclude (selection.criteria_in filter.by) today name (facts_from (fields_of_1 f1) 0 tracks)
        → selection.Passes include exclude (selection.criteria_in filter.by) today name facts
    from is = rw (include_is, exclude_is, facts_are) is
