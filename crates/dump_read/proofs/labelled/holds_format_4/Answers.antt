use Rattle.std.proofs.Common.{rules, ◌≡◌, ◌==◌, None, find, sym}
use Rattle.ckd_image.specs.Address.{address_of}
use Rattle.ckd_image.specs.Device.{heads_of}
use Rattle.ckd_image.specs.Track.{IsTrackText}
use Rattle.vol_label.specs.Label.{IsFirstNumbered}
use Rattle.dump_fmt.specs.Front.{filled_slot}
use Rattle.dump_read.proofs.Labels.{no_record, format_4_there, format_4_of}
use Rattle.dump_read.proofs.labelled.holds_format_4.Goals as goal

pub returns-in_default-first_numbered : goal.returns-in_default-first_numbered
returns-in_default-first_numbered c =
    let text : IsTrackText (address_of (heads_of c.args.head.device) c.args.head.vtoc) (filled_slot c.args.head.device c.args.bytes.now) c.in-Some.track = search rules in
    let none : find (λ x. x.r == c.args.label.vtoc.r) c.in-Some.track.recs ≡ None = sym c.in_default-first_numbered.ensures in
    (λ is. cc, λ is. absurd (no_record c.args.head c.args.label c.args.bytes.now c.in-Some.track c.requires.short c.requires.track text none is))

pub returns : goal.returns
returns c =
    let text : IsTrackText (address_of (heads_of c.args.head.device) c.args.head.vtoc) (filled_slot c.args.head.device c.args.bytes.now) c.in-Some.track = search rules in
    let numbered : IsFirstNumbered c.args.label.vtoc.r c.in-Some.track.recs c.in-Some-first_numbered.rec.now = sym c.in-Some-first_numbered.ensures in (
      λ is. format_4_there c.args.head c.args.label c.args.bytes.now c.in-Some.track c.in-Some-first_numbered.rec.now text numbered (c.is_format_4.ensures.0 is),
      λ is. c.is_format_4.ensures.1 (format_4_of c.args.head c.args.label c.args.bytes.now c.in-Some.track c.in-Some-first_numbered.rec.now c.requires.short c.requires.track text numbered is),
    )
