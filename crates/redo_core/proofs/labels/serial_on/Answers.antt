use Rattle.std.proofs.Common.{◌≡◌, sym, ap, ◌∙◌, subst, arith}
use Rattle.std.specs.Prelude.{Some}
use Rattle.ckd_image.specs.declared.track.Track.{Track}
use Rattle.vol_label.specs.declared.label.Label.{Label}
use Rattle.vol_label.specs.Label.{IsLabel}
use Rattle.vol_label.proofs.OneLabel.{one_label, no_label}
use Rattle.redo_core.proofs.labels.serial_on.Goals as goal

pub returns-in-Ok-read-clause-only : goal.returns-in-Ok-read-clause-only
returns-in-Ok-read-clause-only c = λ serial has.
    let track : has.track ≡ c.in-Ok.track = c.track_laws.ensures.one (record { cylinder = 0; head = 0 }) c.args.slot.now has.track c.in-Ok.track (omega arith, omega arith) c.requires has.text c.in-Ok.ensures.read in
    let label : has.label ≡ c.in-Ok-read.label = one_label c.args.head c.in-Ok.track.recs has.label c.in-Ok-read.label (subst (λ (t : Track). IsLabel c.args.head t.recs has.label) track has.stands) c.in-Ok-read.ensures.read in
    ap Some (ap (λ (l : Label). l.serial) (sym label) ∙ has.serial_is)

pub returns-in-Ok-clause-only : goal.returns-in-Ok-clause-only
returns-in-Ok-clause-only c = λ serial has.
    let track : has.track ≡ c.in-Ok.track = c.track_laws.ensures.one (record { cylinder = 0; head = 0 }) c.args.slot.now has.track c.in-Ok.track (omega arith, omega arith) c.requires has.text c.in-Ok.ensures.read in
    absurd (no_label c.args.head c.in-Ok.track.recs _ c.in-Err-read.ensures.refused has.label (subst (λ (t : Track). IsLabel c.args.head t.recs has.label) track has.stands))
