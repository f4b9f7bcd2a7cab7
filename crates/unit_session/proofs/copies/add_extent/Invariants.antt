use Rattle.std.proofs.Common.{◌≡◌, ◌++◌, ◌+◌, ◌-◌, ◌≤◌, map}
use Rattle.volume_model.specs.Dscbs.{numbers_below}
use Rattle.unit_session.proofs.copies.add_extent.Given as goal

-- the first of them are added
abbrev pub invariant-loop-track : goal.invariant-loop-track
invariant-loop-track l = record {
  from : l.first ≤ l.track;
  within : l.track - l.first ≤ l.track-end - l.first;
  tracks : l.tracks.items ≡ l.fn.tracks.items ++ map (λ place. l.first + place) (numbers_below (l.track - l.first));
}
