use Rattle.std.proofs.Common.{List, map, ap, ◌∙◌}
use Rattle.std.specs.Option.{option_to_list}
use Rattle.std.proofs.lemmas.Result.{IfOk-weaker}
use Rattle.layout_edit.specs.Change.{place_of}
use Rattle.vtoc_layout.specs.Layout.{SetRecords}
use Rattle.layout_found.specs.Sets.{viewed}
use Rattle.vtoc_allot.specs.declared.held.Held.{Held}
use Rattle.vtoc_render.specs.Loads.{OfEachVtoc, HoldsNamed}
use Rattle.vtoc_render.proofs.GroundFound.{sound_ground, HoldsSets, named_held}
use Rattle.vtoc_render.proofs.ground.held_of.Goals as goal

pub fives_in_directory-requires : goal.fives_in_directory-requires
fives_in_directory-requires c = sound_ground c.args.volume.now c.args.slots.now c.args.base.now c.requires.loads c.requires.base

pub returns : goal.returns
returns c =
    let volume = c.args.volume.now in
    let slots = c.args.slots.now in
    let places = c.in_ok-places.places in
    let sets : List SetRecords = option_to_list (viewed c.in_ok-set.set) in
    IfOk-weaker c.held_with.result (λ (held : Held). HoldsSets sets places held) (λ (held : Held). OfEachVtoc volume slots (HoldsNamed c.args.name held))
    (λ held holds.
    named_held volume slots c.args.base.now c.args.name c.in_ok-fives.fives places sets held c.requires.base c.in_ok-fives.ensures (c.in_ok-places.ensures ∙ ap (map place_of) c.as_slice.ensures) c.in_ok-set.ensures holds) c.held_with.ensures
