use Rattle.std.proofs.Common.{◌+◌, ◌≤◌, [], refl, ◌∙◌}
use Rattle.std.proofs.lemmas.List.Elements.{All-head}
use Rattle.free_map.specs.declared.run.Run.{Run}
use Rattle.free_map.specs.Free.{IsFree}
use Rattle.rows_directory.proofs.Apart.{free_or_own}
use Rattle.rows_directory.proofs.plans.runs_behind.Goals as goal

pub runs_after-requires-clause-free : goal.runs_after-requires-clause-free
runs_after-requires-clause-free c = λ track holds.
    free_or_own c.args.from c.args.to c.args.others.now c.deref-2.result.now c.args.usable track (IsFree c.in_ok-volume.volume.free track) (c.deref-2.ensures.value ∙ c.in-Ok.ensures)
    (c.if-not-is_apart.ensures.0 refl) (All-head (λ (run : Run). run.first + run.len ≤ c.args.usable) c.args.to [] (c.if-not-end_by-2.ensures.0 refl)) (c.in_ok-volume.ensures.free track).1 holds
