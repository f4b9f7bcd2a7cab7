use Rattle.std.proofs.Common.{rules, ◌≢◌, ◌+◌, ◌*◌}
use Rattle.ckd_image.specs.Address.{address_of}
use Rattle.ckd_image.specs.Device.{heads_of}
use Rattle.ckd_image.specs.Track.{IsTrackText}
use Rattle.dump_fmt.specs.Front.{filled_slot}
use Rattle.dump_read.proofs.Labels.{no_label_there, other_pointer}
use Rattle.dump_read.proofs.labelled.label_in.Goals as goal

pub returns-in_default-label_on-clause-none : goal.returns-in_default-label_on-clause-none
returns-in_default-label_on-clause-none c =
    let text : IsTrackText (address_of (heads_of c.args.head.device) 0) (filled_slot c.args.head.device c.args.bytes.now) c.in-Some.track = search rules in
    no_label_there c.args.head c.args.bytes.now c.in-Some.track c.requires text c.in_default-label_on.ensures.none

pub returns-then-not-points_at-clause-none : goal.returns-then-not-points_at-clause-none
returns-then-not-points_at-clause-none c =
    let text : IsTrackText (address_of (heads_of c.args.head.device) 0) (filled_slot c.args.head.device c.args.bytes.now) c.in-Some.track = search rules in
    let other : c.in-Some-label_on.label.vtoc.at.cylinder * heads_of c.args.head.device + c.in-Some-label_on.label.vtoc.at.head ≢ c.args.head.vtoc = search rules in
    other_pointer c.args.head c.args.bytes.now c.in-Some.track c.in-Some-label_on.label c.requires text c.in-Some-label_on.ensures.found other
