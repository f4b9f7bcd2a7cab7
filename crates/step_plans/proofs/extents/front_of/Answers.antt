use Rattle.std.proofs.Common.{◌≡◌, ◌∙◌, ℕ, ◌+◌, ◌-◌, [], true, ap}
use Rattle.std.proofs.lemmas.List.Elements.{All-nil, All-cons, All-head}
use Rattle.ckd_image.specs.Address.{address_of}
use Rattle.ckd_image.specs.Device.{heads_of}
use Rattle.dscb_rec.specs.declared.field.Extent.{Extent}
use Rattle.volume_model.specs.Space.{is_run}
use Rattle.vtoc_core.specs.Loaded.{field_of}
use Rattle.step_plans.proofs.Places.{front_is_run}
use Rattle.step_plans.proofs.extents.front_of.Goals as goal

pub returns-clause-run : goal.returns-clause-run
returns-clause-run c =
    let P : Extent → Type 0 = λ extent. is_run (heads_of c.args.device) 65536 (field_of extent) ≡ true in
    let track = ap (λ (track : ℕ). track + c.args.keep - 1) c.track_of.ensures.value in
    All-cons P _ []
    (front_is_run c.args.device (field_of c.args.extent.now) c.args.keep c.of.result (All-head P c.args.extent.now [] c.requires.runs) c.requires.some c.requires.fewer
    (c.of.ensures ∙ (λ i. address_of (c.heads.ensures i) (track i))))
    (All-nil P)
