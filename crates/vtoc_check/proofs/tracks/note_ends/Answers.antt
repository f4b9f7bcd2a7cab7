use Rattle.std.proofs.Common.{◌≡◌, length, ap, ◌∙◌, get_or, max, arith, ◌<◌}
use Rattle.std.proofs.lemmas.List.{length-set}
use Rattle.free_map.specs.declared.run.Run.{Run}
use Rattle.volume_model.specs.Space.{end_of}
use Rattle.vtoc_check.proofs.Bits.{no_run}
use Rattle.vtoc_check.proofs.Ends.{ends_more}
use Rattle.vtoc_check.proofs.tracks.note_ends.Goals as goal

pub loop-run-preserved : goal.loop-run-preserved
loop-run-preserved c =
    let run : Run = get_or c.args.runs.now c.loop-run.run-index no_run in
    let long : length c.note_end.new.ends ≡ length c.loop-run.ends = ap length c.note_end.ensures ∙ length-set c.loop-run.ends run.first (max (get_or c.loop-run.ends run.first 0) (end_of run)) in
    let inside : run.first < length c.loop-run.ends = omega (arith, (c.requires.within c.loop-run.run-index no_run c.loop-run-test.true).0, c.loop-run.invariant.long) in
    record {
      long = long ∙ c.loop-run.invariant.long;
      ends = ends_more c.args.runs.now c.loop-run.run-index c.loop-run.ends c.note_end.new.ends c.loop-run-test.true inside c.note_end.ensures long c.loop-run.invariant.ends;
    }
