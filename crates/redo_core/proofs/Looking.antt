-- Looks one after another.
use Rattle.std.proofs.Common.{◌∙◌, arith}
use Rattle.dasd_pool.specs.Disk.{none}
use Rattle.dasd_pool.specs.declared.pool.Pool.{Ghosts}
use Rattle.dasd_pool.proofs.Moments.{runs_then}
use Rattle.redo_core.specs.Looks.{OnlyLooks}

pub looks_then : {P : Type 0} (pools : Ghosts P) (old mid new : P) → OnlyLooks pools old mid → OnlyLooks pools mid new → OnlyLooks pools old new
looks_then pools old mid new first second = record {
  shape = second.shape ∙ first.shape;
  later = omega (arith, first.later, second.later);
  same = λ told. second.same told ∙ first.same told;
  runs = λ told. runs_then none none none (pools.disk old) (pools.disk mid) (pools.disk new) (λ u b apart. apart) (λ u b apart. apart) (first.runs told) (second.runs told);
}
