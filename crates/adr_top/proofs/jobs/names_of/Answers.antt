use Rattle.std.proofs.Common.{◌++◌, ◌∷◌, [], sym, ap, ◌∙◌}
use Rattle.std.proofs.lemmas.List.{map_more, take_all}
use Rattle.adr_top.specs.Asked.{serials_of}
use Rattle.adr_top.proofs.jobs.names_of.Goals as goal

pub loop-volume-preserved : goal.loop-volume-preserved
loop-volume-preserved c =
    c.in_ok-push.ensures.items
    ∙ (λ k. c.loop-volume.invariant k ++ ((c.volume-item.is k).0 ∷ []))
    ∙ sym (map_more (λ volume. volume.0) c.as_slice-volume-items.result.now c.loop-volume.volume-index c.volume-item.result c.loop-volume-test.true)

pub returns : goal.returns
returns c =
    c.loop-volume.invariant
    ∙ ap serials_of (take_all c.loop-volume.volume-index c.as_slice-volume-items.result.now c.loop-volume-test.false ∙ c.as_slice-volume-items.ensures)
