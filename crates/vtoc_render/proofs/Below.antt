-- Extents below the usable tracks.
use Rattle.std.proofs.Common.{◌≡◌, ℕ, ◌≤◌, List, map, All, true}
use Rattle.std.proofs.lemmas.List.Elements.{All-map, All-weaker}
use Rattle.dscb_rec.specs.declared.field.Extent.{Extent}
use Rattle.free_map.specs.declared.run.Run.{Run}
use Rattle.volume_model.specs.declared.extent.ExtentField.{ExtentField}
use Rattle.volume_model.specs.Space.{end_of, is_run, run_of}
use Rattle.vtoc_check.proofs.Overlapping.{run_facts}
use Rattle.vtoc_core.specs.Loaded.{field_of}
use Rattle.volume_change.specs.Runs.{runs_in}

pub ends_below : (heads usable : ℕ) (extents : List Extent) → All (λ extent. is_run heads usable (field_of extent) ≡ true) extents → All (λ run. end_of run ≤ usable) (runs_in heads extents)
ends_below heads usable extents all =
    All-map (λ (run : Run). end_of run ≤ usable) (run_of heads) (map field_of extents)
    (All-weaker (λ (field : ExtentField). is_run heads usable field ≡ true) (λ (field : ExtentField). end_of (run_of heads field) ≤ usable) (λ field is. (run_facts heads usable field is).0) (map field_of extents)
    (All-map (λ (field : ExtentField). is_run heads usable field ≡ true) field_of extents all))
