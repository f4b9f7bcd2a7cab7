use Rattle.std.proofs.Common.{ℕ, ◌≤◌, length, Option, None, Some, arith}
use Rattle.ckd_image.specs.Address.{address_of}
use Rattle.ckd_image.specs.Device.{heads_of, slot_of}
use Rattle.ckd_image.specs.Track.{track_text}
use Rattle.ckd_image.specs.declared.device.Device.{Device}
use Rattle.ckd_image.specs.declared.device.Device.TheVariants.{D3350, D3380, D3390}
use Rattle.ckd_image.specs.declared.track.Track.{Track}
use Rattle.ckd_image.specs.declared.track.TrackAt.{TrackAt}
use Rattle.unit_session.specs.declared.copies.GivenTracks.{GivenTracks}
use Rattle.unit_session.specs.Given.{FitsAt, track_at}
use Rattle.rows_sessions.proofs.parts.given.Goals as goal

slot_room : (device : Device) → 38 ≤ slot_of device
slot_room D3390 = omega arith
slot_room D3380 = omega arith
slot_room D3350 = omega arith

fits : (given : Option GivenTracks) (place : ℕ) (text : Track) → ((at : TrackAt) → length (track_text at text) ≤ 38) → FitsAt given place text
fits None place text short = tt
fits (Some given) place text short = omega (arith, short (address_of (heads_of given.device) (track_at given place)), slot_room given.device)

pub give-requires-clause-fits : goal.give-requires-clause-fits
give-requires-clause-fits c = fits _ _ c.in_ok-text.text c.in_ok-text.ensures.short
