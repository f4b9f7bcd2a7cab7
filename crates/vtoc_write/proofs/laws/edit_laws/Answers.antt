use Rattle.vtoc_write.proofs.Tracks.{keeps_track, keeps_places}
use Rattle.vtoc_write.proofs.laws.edit_laws.Goals as goal

pub returns-clause-tracks : goal.returns-clause-tracks
returns-clause-tracks c = λ edits device track slot dscbs block small short is h. keeps_track edits device track slot dscbs small short is block h

pub returns-clause-places : goal.returns-clause-places
returns-clause-places c = keeps_places
