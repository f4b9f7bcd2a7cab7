use Rattle.std.proofs.Common.{◌++◌, subst, sym}
use Rattle.org_reloc.specs.Content.{records_of, TakesOver}
use Rattle.org_reloc.proofs.Runs.{takes_end, takes_more}
use Rattle.org_reloc.proofs.run.push_blocks.Goals as goal

pub returns-then-ended : goal.returns-then-ended
returns-then-ended c =
    let track = c.track-item.result in
    let old = c.loop-track.blocks in
    let new = c.push_run-in-loop-track.new.blocks in
    subst (λ e. TakesOver (c.args.recs.now ++ records_of c.args.tracks.now) c.args.blocks.now new e) (sym c.if-ended.true)
    (takes_end c.args.recs.now c.args.tracks.now c.loop-track.track-index track c.args.blocks.now old new c.loop-track-test.true c.track-item.is c.loop-track.invariant.0 c.loop-track.invariant.1
    (subst (λ e. TakesOver track.recs old new e) c.if-ended.true (subst (λ recs. TakesOver recs old new c.in_ok-ended.ended) c.as_slice.ensures c.in_ok-ended.ensures)))

pub loop-track-preserved : goal.loop-track-preserved
loop-track-preserved c =
    let track = c.track-item.result in
    let old = c.loop-track.blocks in
    let new = c.push_run-in-loop-track.new.blocks in
    takes_more c.args.recs.now c.args.tracks.now c.loop-track.track-index track c.args.blocks.now old new c.loop-track-test.true c.track-item.is c.loop-track.invariant.0 c.loop-track.invariant.1
    (subst (λ e. TakesOver track.recs old new e) c.if-ended.false (subst (λ recs. TakesOver recs old new c.in_ok-ended.ended) c.as_slice.ensures c.in_ok-ended.ensures))
