use Rattle.std.proofs.Common.{◌+◌, max, ap, ◌∙◌, subst, sym, All, List, ◌<◌, ◌≤◌}
use Rattle.free_map.specs.declared.run.Run.{Run}
use Rattle.free_map.specs.Runs.{AreMaximalRuns, InRuns}
use Rattle.free_map.proofs.Gaps.{gaps, gaps_more, gaps_skip, gaps_all, gaps_maximal, gaps_within}
use Rattle.free_map.proofs.unused.gaps.Goals as goal
use Rattle.free_map.proofs.unused.gaps.Goals.{then-run-gt0+in_ok-push_tracks, else-run-gt0}

pub loop-run-preserved : goal.loop-run-preserved
loop-run-preserved c =
    let used = c.args.used.now in
    let whole = gaps 0 c.args.usable used in
    let zero : Run = record { first = 0; len = 0 } in
    let i = c.loop-run.run-index in
    elim c.if-run-gt0.branch [
      | then-run-gt0+in_ok-push_tracks w ↦ (
          gaps_more c.loop-run.free.items c.if-run-gt0.free.items whole c.loop-run.next c.if-run-gt0.next c.args.usable used i zero c.loop-run-test.true w.if-run-gt0.true
          c.loop-run.invariant (ap (λ v. v.items) w.free-is ∙ w.in_ok-push_tracks.ensures) (w.next-is ∙ w.max-next.ensures ∙ ap (max c.loop-run.next) w.end.ensures))
      | else-run-gt0 w ↦ (
          rw (w.free-is, w.next-is) (gaps_skip c.loop-run.free.items whole c.loop-run.next c.args.usable used i zero c.loop-run-test.true w.if-run-gt0.false c.loop-run.invariant))
    ]

pub returns-clause-maximal : goal.returns-clause-maximal
returns-clause-maximal c =
    let used = c.args.used.now in
    let all = gaps_all c.loop-run.free.items c.push_tracks-2.new.runs.items (gaps 0 c.args.usable used) c.loop-run.next c.args.usable used c.loop-run.run-index c.loop-run-test.false c.loop-run.invariant c.in_ok-push_tracks-2.ensures in
    let P : List Run → Type 0 = λ runs. AreMaximalRuns (λ track. (track < c.args.usable) × ¬ InRuns used track) runs in
    subst P (sym all) (gaps_maximal c.args.usable used c.requires.ascending c.requires.within)

pub returns-clause-within : goal.returns-clause-within
returns-clause-within c =
    let used = c.args.used.now in
    let all = gaps_all c.loop-run.free.items c.push_tracks-2.new.runs.items (gaps 0 c.args.usable used) c.loop-run.next c.args.usable used c.loop-run.run-index c.loop-run-test.false c.loop-run.invariant c.in_ok-push_tracks-2.ensures in
    let P : List Run → Type 0 = λ runs. All (λ run. run.first + run.len ≤ c.args.usable) runs in
    subst P (sym all) (gaps_within c.args.usable used c.requires.within)
