use Rattle.std.proofs.Common.{List, ◌≤◌, ◌<◌, ◌++◌, ℕ, All, ap, subst, ◌∙◌}
use Rattle.std.proofs.lemmas.Result.{IfOk-weaker}
use Rattle.free_map.specs.declared.run.Run.{Run}
use Rattle.free_map.specs.Runs.{InRuns, AreMaximalRuns}
use Rattle.volume_model.specs.Space.{end_of}
use Rattle.volume_change.specs.Runs.{IsFreeAfter}
use Rattle.volume_change.proofs.Tracks.{free_exact}
use Rattle.volume_change.proofs.space.free_after.Goals as goal

pub returns-clause-free : goal.returns-clause-free
returns-clause-free c =
    let free = c.args.volume.now.free in
    let usable = c.args.volume.now.usable in
    let gone = c.args.gone.now in
    let put = c.args.put.now in
    let within : All (λ run. end_of run ≤ usable) free.runs = subst (λ (n : ℕ). All (λ run. end_of run ≤ n) free.runs) c.requires.usable c.runs.ensures.kept.within in
    IfOk-weaker c.unused_tracks-2.result
    (λ after. AreMaximalRuns (λ track. (track < usable) × ¬ (InRuns c.deref-2.result.now track)) after.runs)
    (λ after. AreMaximalRuns (IsFreeAfter free gone put) after.runs)
    (λ after m. free_exact free usable gone put c.deref.result.now c.in_ok-used.used.runs c.deref-2.result.now after.runs within c.requires.gone
    (c.deref.ensures.value ∙ c.in_ok-empty.ensures ∙ ap (λ (runs : List Run). runs ++ gone) c.runs.ensures.runs) c.in_ok-used.ensures.unused
    (c.deref-2.ensures.value ∙ c.in_ok-taken.ensures ∙ ap (λ (runs : List Run). runs ++ put) c.runs-2.ensures.runs) m)
    c.unused_tracks-2.ensures.unused
