use Rattle.std.proofs.Common.{◌++◌, ◌∷◌, [], List, get_or, ap, sym, ◌∙◌}
use Rattle.dscb_rec.specs.declared.field.Extent.{Extent}
use Rattle.vtoc_render.proofs.Numbers.{with_number, numbered_more}
use Rattle.vtoc_render.proofs.next.numbered.Goals as goal

abbrev blank : Extent
blank = record { kind = 0; number = 0; first = record { cylinder = 0; head = 0 }; last = record { cylinder = 0; head = 0 } }

pub loop-place-preserved : goal.loop-place-preserved
loop-place-preserved c =
    c.in_ok-push.ensures.ok
    ∙ ap (λ (numbered : List Extent). numbered ++ (with_number c.loop-place.place (get_or c.args.extents.now c.loop-place.place blank) ∷ [])) c.loop-place.invariant
    ∙ sym (numbered_more c.args.extents.now c.loop-place.place blank c.loop-place-test.true)
