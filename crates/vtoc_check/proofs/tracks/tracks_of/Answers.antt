use Rattle.std.proofs.Common.{◌∙◌}
use Rattle.vtoc_check.proofs.Ends.{no_ends}
use Rattle.vtoc_check.proofs.tracks.tracks_of.Goals as goal

pub tracks_by-requires-clause-none : goal.tracks_by-requires-clause-none
tracks_by-requires-clause-none c = no_ends c.deref_mut.result.now c.args.limit (c.deref_mut.ensures.value ∙ c.in_ok-ends.ensures)
