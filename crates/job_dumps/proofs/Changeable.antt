-- The data sets that are dumped can be changed, one after the other.
use Rattle.std.proofs.Common.{List, [], ◌∷◌, ◌++◌, Option, None}
use Rattle.std.specs.Prelude.{◌≡◌}
use Rattle.dsn_filter.specs.declared.dsn.Dsn.{Dsn}
use Rattle.unit_load.specs.declared.state.UnitState.{UnitState}
use Rattle.job_lines.specs.declared.message.Reason.{Reason}
use Rattle.job_dumps.specs.declared.pass.DumpScene.{DumpScene}
use Rattle.job_dumps.specs.Passing.{CanBeChanged, DumpedCanBeChanged}

pub one_more_changeable : (units : List UnitState) (scene : DumpScene) (names : List Dsn) (told : List (Option Reason)) (name : Dsn) (reason : Option Reason) → DumpedCanBeChanged units scene names told
    → (reason ≡ None → CanBeChanged units scene name) → DumpedCanBeChanged units scene (names ++ name ∷ []) (told ++ reason ∷ [])
one_more_changeable units scene [] [] name reason all one = (one, tt {0})
one_more_changeable units scene (first ∷ names) (why ∷ told) name reason all one = (all.0, one_more_changeable units scene names told name reason all.1 one)
one_more_changeable units scene [] (why ∷ told) name reason all one = absurd all
one_more_changeable units scene (first ∷ names) [] name reason all one = absurd all
