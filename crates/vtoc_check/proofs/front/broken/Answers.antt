use Rattle.std.proofs.Common.{ℕ, ap, ◌∙◌}
use Rattle.ckd_image.specs.Device.{heads_of}
use Rattle.volume_model.specs.declared.place.Breach.{Breach}
use Rattle.volume_model.specs.declared.place.Place.{Place}
use Rattle.volume_model.specs.Rules.{number_of}
use Rattle.volume_model.specs.Directory.{named_place}
use Rattle.vtoc_check.specs.declared.fault.VtocFault.TheVariants.{BadVtoc}
use Rattle.vtoc_check.specs.Front.{IsFrontBreach}
use Rattle.vtoc_check.proofs.FrontRules.{told_fault}
use Rattle.vtoc_check.proofs.front.broken.Goals as goal

pub returns : goal.returns
returns c = λ slots h.
    let told : Breach = record { place = named_place (heads_of c.args.head.device) c.args.pointer; rule = c.args.rule } in
    told_fault (IsFrontBreach c.args.head slots c.args.pointer) told c.told_as.result
    (c.told_as.ensures ∙ ap (λ (place : Place). BadVtoc place.track place.record_number (number_of c.args.rule)) (c.place_at-place.ensures ∙ ap (λ (heads : ℕ). named_place heads c.args.pointer) c.heads.ensures)) h
