use Rattle.std.proofs.Common.{sym, ap, ◌∙◌}
use Rattle.std.specs.Option.{option_copied}
use Rattle.vtoc_render.proofs.GroundFound.{some_four, the_four}
use Rattle.vtoc_render.proofs.ground.ground_of.Goals as goal

pub unreachable-requires : goal.unreachable-requires
unreachable-requires c =
    some_four c.args.volume.now c.args.slots.now c.records.result.now c.requires
    (λ head label unit sliding vtoc four was. c.records.ensures ∙ (c.in_ok-directory.ensures head label unit sliding vtoc four was).0) (sym c.four_among.ensures ∙ ap option_copied c.in_default.is)

pub returns : goal.returns
returns c = λ head label unit sliding vtoc four was.
    let is = c.in_ok-directory.ensures head label unit sliding vtoc four was in
    record {
      records_are = is.0;
      heads_are = is.1;
      four_is =
          the_four head label unit sliding c.args.slots.now c.args.volume.now vtoc four c.in-Some.four.now c.records.result.now was (c.records.ensures ∙ is.0)
          (sym c.four_among.ensures ∙ ap option_copied c.in-Some.is);
    }
