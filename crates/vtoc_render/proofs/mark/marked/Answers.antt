use Rattle.std.proofs.Common.{ap, subst, ◌∙◌}
use Rattle.volume_model.specs.declared.place.Placed.{Placed}
use Rattle.volume_model.specs.Dscbs.{format_of}
use Rattle.dscb_made.specs.Made.{IsMarkedFormat4}
use Rattle.render_laws.proofs.Before.{four_format}
use Rattle.vtoc_render.proofs.Known.{usable_small, free_apart, texts}
use Rattle.vtoc_render.proofs.mark.marked.Goals as goal

pub four_marked-four-requires : goal.four_marked-four-requires
four_marked-four-requires c =
    let l = c.requires.loads in
    ap (λ (placed : Placed). format_of placed.bytes) (c.in_ok-ground.ensures l.head l.label l.unit l.sliding l.vtoc l.four l.was).four_is ∙ four_format l.was

pub changed_tracks-requires-clause-dscbs : goal.changed_tracks-requires-clause-dscbs
changed_tracks-requires-clause-dscbs c = texts c.requires.loads.was

pub copy_volume-requires-clause-small : goal.copy_volume-requires-clause-small
copy_volume-requires-clause-small c = usable_small c.requires.loads.was

pub copy_volume-requires-clause-apart : goal.copy_volume-requires-clause-apart
copy_volume-requires-clause-apart c = free_apart c.requires.loads.was

pub returns-clause-blocks : goal.returns-clause-blocks
returns-clause-blocks c = λ head label unit sliding vtoc four was.
    let is = (c.in_ok-ground.ensures head label unit sliding vtoc four was).four_is in
    record {
      marked = c.four_marked-four.result;
      marked_at = c.four_marked-four.ensures.place ∙ ap (λ (placed : Placed). placed.place) is;
      marked_is = subst (λ (placed : Placed). IsMarkedFormat4 placed.bytes c.four_marked-four.result.bytes) is c.four_marked-four.ensures.bytes;
      blocks_are = c.in_ok-changed_tracks.ensures;
    }
