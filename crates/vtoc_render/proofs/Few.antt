-- A map of free tracks has few runs.
use Rattle.std.proofs.Common.{ℕ, suc, ◌+◌, ◌≤◌, List, [], ◌∷◌, length, All, arith}
use Rattle.free_map.specs.declared.run.Run.{Run}
use Rattle.free_map.specs.Free.{AreFreeRuns}
use Rattle.free_map.specs.Runs.{AreApart}

few_from : (from usable : ℕ) (run : Run) (runs : List Run) → AreApart from (run ∷ runs) → All (λ run. run.first + run.len ≤ usable) (run ∷ runs) → from + length (run ∷ runs) ≤ usable
few_from from usable run [] apart within = omega (arith, apart.0, apart.1, within 0 run (omega arith))
few_from from usable run (next ∷ more) apart within =
    omega (arith, apart.0, apart.1, few_from (run.first + run.len + 1) usable next more apart.2 (λ k d less. within (suc k) d (omega (arith, less))))

pub few_runs : (usable heads : ℕ) (runs : List Run) → AreFreeRuns usable heads runs → length runs ≤ 65535
few_runs usable heads [] are = omega arith
few_runs usable heads (run ∷ runs) are = omega (arith, are.tracks_fit, few_from 0 usable run runs are.apart are.within)
