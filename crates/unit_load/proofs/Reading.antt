-- Reads one after another.
use Rattle.std.proofs.Common.{◌∙◌, refl, arith}
use Rattle.dasd_pool.specs.Disk.{none}
use Rattle.dasd_pool.proofs.Moments.{runs_then, runs_start}
use Rattle.dasd_pool.specs.declared.pool.Pool.{Ghosts}
use Rattle.redo_core.specs.Stops.{JournalView}
use Rattle.unit_load.specs.Reads.{OnlyReads}

pub reads_then : {P : Type 0} (pools : Ghosts P) (old mid new : JournalView P) → OnlyReads pools old mid → OnlyReads pools mid new → OnlyReads pools old new
reads_then pools old mid new first second = record {
  shape = second.shape ∙ first.shape;
  later = omega (arith, first.later, second.later);
  same = λ told. second.same told ∙ first.same told;
  runs = λ told. runs_then none none none (pools.disk old.pool) (pools.disk mid.pool) (pools.disk new.pool) (λ u b apart. apart) (λ u b apart. apart) (first.runs told) (second.runs told);
  status = record {
    room = second.status.room ∙ first.status.room;
    control = second.status.control ∙ first.status.control;
    fills = second.status.fills ∙ first.status.fills;
  };
}

pub reads_none : {P : Type 0} (pools : Ghosts P) (old : JournalView P) → OnlyReads pools old old
reads_none pools old = record {
  shape = refl;
  later = omega arith;
  same = λ told. refl;
  runs = λ told. runs_start none (pools.disk old.pool);
  status = record { room = refl; control = refl; fills = refl };
}
