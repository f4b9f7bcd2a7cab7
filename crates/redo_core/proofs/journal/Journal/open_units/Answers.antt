use Rattle.std.proofs.Common.{◌-◌, sym, subst, arith}
use Rattle.std.proofs.lemmas.Grind.{common_steps}
use Rattle.dasd_pool.specs.Disk.{Shape}
use Rattle.redo_core.specs.Phases.{IsAtRest}
use Rattle.redo_core.specs.Steps.{IsJournal}
use Rattle.redo_core.proofs.journal.Journal.open_units.Goals as goal

pub invariant_of-result : goal.invariant_of-result
invariant_of-result g c =
    let f = c.in-Ok-open_on.found in
    let same = c.in-Ok-open_on.ensures.shape in (
      subst (λ (s : Shape). IsJournal s (c.units-unit.result - 1) f.room) (sym same) c.in-Ok-open_on.ensures.journal,
      c.in-Ok-open_on.ensures.least,
      grind (arith, common_steps),
      c.in-Ok-spare_for.ensures,
      λ told. subst (λ (s : Shape). IsAtRest s (g.P.Pool.disk c.open_on.new.pool).state f.room f.control f.fills) (sym same) (c.in-Ok-open_on.ensures.rest told),
    )
