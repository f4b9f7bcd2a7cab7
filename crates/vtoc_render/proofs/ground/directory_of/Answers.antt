use Rattle.std.proofs.Common.{◌≡◌, ℕ, List, Option, sym, subst, ◌∙◌}
use Rattle.std.proofs.lemmas.Result.{IfOk-weaker}
use Rattle.ckd_image.specs.Device.{heads_of, slot_of}
use Rattle.volume_model.specs.Directory.{placed_in}
use Rattle.vtoc_check.specs.declared.directory.Directory.{Directory}
use Rattle.vtoc_check.specs.Places.{AreShort}
use Rattle.vtoc_check.specs.Slots.{slot_in}
use Rattle.vtoc_check.proofs.Readings.{are_short}
use Rattle.vtoc_render.specs.Loads.{OfEachVtoc}
use Rattle.vtoc_render.proofs.GroundFound.{Reads, IsDirectoryOf, directory_found}
use Rattle.vtoc_render.proofs.ground.directory_of.Goals as goal

pub new-requires-clause-short : goal.new-requires-clause-short
new-requires-clause-short c =
    let volume = c.args.volume.now in
    let slots = slot_in volume.vtoc (slot_of volume.device) c.args.slots.now in
    let P : List (Option (List (List ℕ))) → Type 0 = AreShort in
    subst P (sym c.as_slice.ensures) (are_short (heads_of volume.device) slots volume.vtoc c.in_ok-tracks.tracks c.in_ok-tracks.ensures)

pub returns : goal.returns
returns c =
    let volume = c.args.volume.now in
    let tracks = c.as_slice.result.now in
    let P : List (Option (List (List ℕ))) → Type 0 = Reads volume c.args.slots.now in
    let reads = subst P (sym c.as_slice.ensures) c.in_ok-tracks.ensures in
    IfOk-weaker c.new.result (λ (directory : Directory). (directory.heads ≡ c.heads.result) × (directory.records.items ≡ placed_in volume.vtoc.first tracks)) (λ (directory : Directory). OfEachVtoc volume c.args.slots.now (λ vtoc four. IsDirectoryOf directory vtoc))
    (λ directory is. directory_found volume c.args.slots.now tracks directory reads (is.0 ∙ c.heads.ensures) is.1) c.new.ensures
