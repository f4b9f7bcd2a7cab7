use Rattle.org_reloc.specs.Content.{records_of}
use Rattle.org_reloc.proofs.Runs.{held_sized, all_records}
use Rattle.org_reloc.proofs.sequential.content_of.Goals as goal

pub returns-clause-blocks : goal.returns-clause-blocks
returns-clause-blocks c = held_sized c.in_ok-run.run'.ended (records_of c.args.tracks.now) c.in_ok-run.run'.blocks c.in_ok-run.ensures (all_records c.args.tracks.now c.requires)
