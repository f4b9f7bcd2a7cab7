use Rattle.std.proofs.Common.{map, take, refl, subst}
use Rattle.std.proofs.lemmas.List.Elements.{All-more}
use Rattle.ckd_image.specs.declared.track.Rec.{Rec}
use Rattle.org_reloc.specs.Content.{block_of, IsEnd}
use Rattle.org_reloc.proofs.Runs.{ends_at, map_step}
use Rattle.org_reloc.proofs.run.push_run.Goals as goal

pub returns-then-is_end : goal.returns-then-is_end
returns-then-is_end c = record {
  taken = map block_of (take c.loop-rec.rec-index c.args.recs.now);
  new_is = c.loop-rec.invariant.1;
  held = ends_at c.args.recs.now c.loop-rec.rec-index c.rec-item.result c.loop-rec-test.true c.rec-item.is c.loop-rec.invariant.0 (c.if-is_end.ensures.0 refl);
}

pub loop-rec-preserved : goal.loop-rec-preserved
loop-rec-preserved c =
    let no_end : Rec → Type 0 = λ rec. ¬ IsEnd rec in (
      All-more no_end c.args.recs.now c.loop-rec.rec-index c.rec-item.result c.loop-rec-test.true c.loop-rec.invariant.0
          (subst no_end c.rec-item.is (λ end. let yes = c.if-is_end.ensures.1 end in cc)),
      map_step block_of c.args.recs.now c.loop-rec.rec-index c.rec-item.result c.in_ok-copy_of.field-0 c.args.blocks.now c.loop-rec.blocks c.push.new.self
          c.loop-rec-test.true c.rec-item.is c.in_ok-copy_of.ensures c.loop-rec.invariant.1 c.in_ok-push.ensures.ok,
    )
