use Rattle.std.proofs.Common.{sym, ap, ◌∙◌, arith, ◌++◌, ◌∷◌, [], length}
use Rattle.ckd_image.specs.declared.track.Track.{Track}
use Rattle.std.specs.Vec.Iter.{into_iter_items, into_iter_len}
use Rattle.org_reloc.proofs.Placing.{next_costs, next_sized, put_none, put_more, put_all}
use Rattle.org_reloc.proofs.packing.pack.Goals as goal

pub put-requires-clause-block : goal.put-requires-clause-block
put-requires-clause-block c = next_sized c.args.device c.args.blocks c.loop-block.yielded _ _ _ c.loop-block.packer c.in-Some.block c.loop-block.invariant.2 c.in-Some.ensures.steps.0 c.requires.blocks

pub put-requires-clause-alone : goal.put-requires-clause-alone
put-requires-clause-alone c = next_costs c.args.device c.args.blocks c.loop-block.yielded _ _ _ c.loop-block.packer c.in-Some.block c.loop-block.invariant.2 c.in-Some.ensures.steps.0 c.requires.fit

pub put-requires-clause-few : goal.put-requires-clause-few
put-requires-clause-few c = c.loop-block.invariant.2.few

pub loop-block-init : goal.loop-block-init
loop-block-init c =
    let given = c.into_iter-block-iterator.ensures.into_iter_gives in
    let whole = sym (given.0 ∙ c.into_vec-block-items.ensures) in (
      tt,
      tt,
      put_none c.args.device c.args.blocks (into_iter_items c.into_iter-block-iterator.result) (into_iter_len c.into_iter-block-iterator.result) _ c.new.ensures c.new-2.ensures c.new-3.ensures whole
          (omega (arith, given.1, ap length given.0, c.into_vec-block-items.result.ok.0)),
    )

pub loop-block-preserved : goal.loop-block-preserved
loop-block-preserved c = (
  tt,
  tt,
  put_more c.args.device c.args.blocks c.loop-block.yielded (into_iter_items c.loop-block.block-iterator) (into_iter_items c.next.new.self) (into_iter_len c.loop-block.block-iterator) (into_iter_len c.next.new.self)
      c.loop-block.packer c.put.new.self c.in-Some.block c.loop-block.invariant.2 c.in-Some.ensures.steps.0 c.in-Some.ensures.steps.1 c.in_ok-put.ensures.device c.in_ok-put.ensures.few c.in_ok-put.ensures.put,
)

pub returns : goal.returns
returns c =
    put_all c.args.device c.args.blocks c.loop-block.yielded (into_iter_items c.loop-block.block-iterator) (into_iter_len c.loop-block.block-iterator) c.loop-block.packer c.push.new.self c.loop-block.invariant.2
    c.in-None.ensures.steps.0 (c.in_ok-push.ensures.ok ∙ ap (λ (t : Track). c.loop-block.packer.tracks ++ t ∷ []) c.track_with.ensures)
