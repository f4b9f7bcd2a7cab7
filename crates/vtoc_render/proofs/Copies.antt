-- A free map with the tracks of another.
use Rattle.std.proofs.Common.{◌≡◌, List, [], inl, ⊎_elim}
use Rattle.free_map.specs.declared.run.Run.{Run}
use Rattle.free_map.specs.Free.{Free}
use Rattle.free_map.specs.Runs.{AreApart, AreMaximalRuns}
use Rattle.free_map.proofs.Apart.{same_list}
use Rattle.volume_change.specs.Runs.{IsFreeAfter}

-- where nothing is given back or taken, the free tracks are those before
pub same_runs : (free : Free) (after : List Run) → AreApart 0 free.runs → AreMaximalRuns (IsFreeAfter free [] []) after → after ≡ free.runs
same_runs free after apart maximal =
    same_list 0 0 after free.runs maximal.apart apart
    (λ track. ((λ inside. ⊎_elim (λ was. was) (λ never. absurd never) ((maximal.exact track).1 inside).0), (λ was. (maximal.exact track).0 (inl was, (λ never. never)))))
