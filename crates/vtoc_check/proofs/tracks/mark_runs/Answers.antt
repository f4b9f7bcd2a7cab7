use Rattle.std.proofs.Common.{List, ap, ◌∙◌}
use Rattle.std.specs.Prelude.{◌||◌}
use Rattle.std.specs.List.{list_any}
use Rattle.std.proofs.lemmas.List.{take_all}
use Rattle.free_map.specs.declared.run.Run.{Run}
use Rattle.volume_model.specs.Space.{has_track}
use Rattle.volume_model.specs.Check.{any_overlap, overlap_within}
use Rattle.vtoc_check.specs.Reach.{is_marked}
use Rattle.vtoc_check.proofs.Bits.{was_free, marked_more, hit_next}
use Rattle.vtoc_check.proofs.tracks.mark_runs.Goals as goal

pub loop-run-preserved : goal.loop-run-preserved
loop-run-preserved c = record {
  long = c.mark_next-hit.ensures.long ∙ c.loop-run.invariant.long;
  marked = λ e.
      let f = was_free c.loop-run.hit c.mark_next-hit.result c.mark_next-hit.ensures.before e in
      marked_more c.args.runs.now c.loop-run.run-index c.args.marks.now c.loop-run.marks c.mark_next-hit.new.marks c.mark_next-hit.result c.loop-run-test.true (c.loop-run.invariant.marked f) (c.mark_next-hit.ensures.marked f);
  hit = λ others are some all.
      hit_next c.args.runs.now others c.loop-run.run-index c.args.marks.now c.loop-run.marks c.mark_next-hit.new.marks c.loop-run.hit c.mark_next-hit.result c.loop-run-test.true c.loop-run.invariant.marked
      c.mark_next-hit.ensures.marked c.mark_next-hit.ensures.before are some all (c.loop-run.invariant.hit others are some all);
}

pub returns : goal.returns
returns c =
    let whole = take_all c.loop-run.run-index c.args.runs.now c.loop-run-test.false in
    record {
      long = c.loop-run.invariant.long;
      marked = λ e track. c.loop-run.invariant.marked e track ∙ ap (λ (runs : List Run). is_marked c.args.marks.now track || list_any (has_track track) runs) whole;
      hit = λ others are some all. c.loop-run.invariant.hit others are some all ∙ ap (λ (runs : List Run). any_overlap runs others || overlap_within runs) whole;
    }
