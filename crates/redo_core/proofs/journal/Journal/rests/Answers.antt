use Rattle.std.proofs.Common.{subst}
use Rattle.redo_core.specs.Phases.{IsAtRest}
use Rattle.redo_core.specs.Stops.{JournalView}
use Rattle.redo_core.proofs.journal.Journal.rests.Goals as goal

pub returns : goal.returns
returns g c = λ told.
    subst (λ (v : JournalView _). IsAtRest (g.P.Pool.shape v.pool) (g.P.Pool.disk v.pool).state v.room v.control v.fills) c.self.view_is (c.self.invariant.4 told)
