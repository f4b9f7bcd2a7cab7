use Rattle.std.proofs.Common.{All, arith, subst, sym}
use Rattle.std.proofs.lemmas.List.Elements.{All-push}
use Rattle.ckd_image.specs.Track.{IsRecord}
use Rattle.rows_formats.proofs.refit.number.Goals as goal

pub loop-length-preserved : goal.loop-length-preserved
loop-length-preserved c = record {
  low = omega (arith, c.saturating_add-r.ensures, c.loop-length.invariant.low);
  recs = subst (All IsRecord) (sym c.in_ok-push.ensures.ok) (All-push IsRecord c.loop-length.recs c.in_ok-next.next c.loop-length.invariant.recs c.in_ok-next.ensures);
}
