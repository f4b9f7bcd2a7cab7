use Rattle.std.proofs.Common.{sym, ap, ◌∙◌}
use Rattle.dasd_pool.specs.Disk.{Shape}
use Rattle.redo_core.specs.Reading.{journal_of}
use Rattle.move_core.proofs.Running.{run_still}
use Rattle.unit_session.proofs.Loading.{still_free, still_loaded, still_kept, still_vtocs, still_seen}
use Rattle.unit_session.proofs.session.Session.read_slot.Goals as goal

pub invariant_of-self : goal.invariant_of-self
invariant_of-self g c =
    let does = c.read.ensures in
    let was = c.self.invariant in
    let volumes = ap (λ (s : Shape). journal_of s) (sym does.shape) in (
      still_free does.status.control does.status.fills was.0,
      was.1 ∙ volumes,
      was.2 ∙ volumes,
      still_kept c.self.inside.units.items c.self.inside.vtocs.items does.shape was.3,
      λ told. still_loaded c.self.inside.units.items does.shape (does.same told) (was.4 told),
      λ told. still_vtocs c.self.inside.units.items c.self.inside.vtocs.items (does.same told) (was.5 told),
      λ told. still_seen c.self.inside.units.items c.self.inside.seen (does.same told) (was.6 told),
    )

pub returns-clause-run : goal.returns-clause-run
returns-clause-run g c = rw (sym c.self.view_is) (run_still c.read.ensures.shape c.read.ensures.cause.later (λ not. absurd (not tt)) c.read.ensures.runs)

pub returns-clause-writes : goal.returns-clause-writes
returns-clause-writes g c = rw (sym c.self.view_is) c.read.ensures.runs
