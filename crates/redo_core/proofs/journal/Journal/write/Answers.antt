use Rattle.std.proofs.Common.{◌<◌, sym, subst}
use Rattle.dasd_pool.specs.Disk.{Shape}
use Rattle.redo_core.specs.Phases.{IsAtRest}
use Rattle.redo_core.specs.Reading.{journal_of}
use Rattle.redo_core.specs.Steps.{IsJournal}
use Rattle.redo_core.specs.Stops.{JournalView}
use Rattle.redo_core.proofs.Readings.{rest_written}
use Rattle.redo_core.proofs.journal.Journal.write.Goals as goal

pub invariant_of-self : goal.invariant_of-self
invariant_of-self g c =
    let j = c.self.inside in
    let same = c.write.ensures.shape in
    let volume : c.args.unit < journal_of (g.P.Pool.shape j.pool) = subst (λ (v : JournalView _). c.args.unit < journal_of (g.P.Pool.shape v.pool)) (sym c.self.view_is) c.requires.unit in (
      subst (λ (s : Shape). IsJournal s j.unit j.room) (sym same) c.self.invariant.0,
      c.self.invariant.1,
      c.self.invariant.2,
      c.self.invariant.3,
      λ told. subst (λ (s : Shape). IsAtRest s (g.P.Pool.disk c.write.new.self).state j.room j.control j.fills) (sym same)
          (rest_written (g.P.Pool.shape j.pool) (g.P.Pool.disk j.pool).state (g.P.Pool.disk c.write.new.self).state j.room j.control j.fills c.args.unit c.args.block volume
          ((c.write.ensures.runs told).touches) (c.self.invariant.4 told)),
    )

pub returns-clause-rest : goal.returns-clause-rest
returns-clause-rest g c = λ told.
    let j = c.self.inside in
    let same = c.write.ensures.shape in
    let volume : c.args.unit < journal_of (g.P.Pool.shape j.pool) = subst (λ (v : JournalView _). c.args.unit < journal_of (g.P.Pool.shape v.pool)) (sym c.self.view_is) c.requires.unit in
    subst (λ (s : Shape). IsAtRest s (g.P.Pool.disk c.write.new.self).state j.room j.control j.fills) (sym same)
    (rest_written (g.P.Pool.shape j.pool) (g.P.Pool.disk j.pool).state (g.P.Pool.disk c.write.new.self).state j.room j.control j.fills c.args.unit c.args.block volume
    ((c.write.ensures.runs told).touches) (c.self.invariant.4 told))
