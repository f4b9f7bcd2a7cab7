use Rattle.std.proofs.Common.{rules, ◌≡◌, ◌+◌, sym, ◌∙◌}
use Rattle.volume_model.specs.Pinned.{used_tracks}
use Rattle.plan_core.proofs.UsedTracks.{used_kept}
use Rattle.plan_core.proofs.release.used_tracks.Goals as goal

pub returns-then-f1-eq0-clause-value : goal.returns-then-f1-eq0-clause-value
returns-then-f1-eq0-clause-value c = let is : 1 ≡ used_tracks c.args.f1.now = search rules in is ∙ sym (used_kept c.args.f1.now c.told-f1)

pub returns-clause-value : goal.returns-clause-value
returns-clause-value c = let is : c.from.result + 1 ≡ used_tracks c.args.f1.now = search rules in is ∙ sym (used_kept c.args.f1.now c.told-f1)
