use Rattle.std.proofs.Common.{◌≡◌, ◌<◌, List, length, get_or, sym, ap, ◌∙◌, arith}
use Rattle.vtoc_core.specs.declared.volume.Row.{Row}
use Rattle.job_select.proofs.Picks.{taken_more, passed_over, all_picked, all_taken}
use Rattle.job_select.proofs.selection.select.Goals.{in-Some+in_ok-push, in_default}
use Rattle.job_select.proofs.selection.select.Goals as goal

pub loop-row-preserved : goal.loop-row-preserved
loop-row-preserved c =
    let row = c.row-item.result in
    let at : get_or c.args.volume.now.rows c.loop-row.row-index row ≡ row =
    ap (λ (rows : List Row). get_or rows c.loop-row.row-index row) (sym c.as_slice-rows.ensures) ∙ sym c.row-item.is in
    let less : c.loop-row.row-index < length c.args.volume.now.rows = omega (arith, c.loop-row-test.true, ap length c.as_slice-rows.ensures) in
    elim c.match-name_taken.branch [
      | in-Some+in_ok-push w ↦
          taken_more c.args.volume.now c.args.filter.now c.args.today c.loop-row.row-index c.loop-row.names.items c.loop-row.invariant row at less c.requires.sound w.in-Some.name w.in-Some.ensures.row w.in-Some.ensures.taken
          c.match-name_taken.names.items (ap (λ names. names.items) w.names-is ∙ w.in_ok-push.ensures.items)
      | in_default w ↦
          passed_over c.args.volume.now c.args.filter.now c.args.today c.loop-row.row-index c.loop-row.names.items c.loop-row.invariant row at less w.in_default.ensures.none
          c.match-name_taken.names.items (ap (λ names. names.items) w.names-is)
    ]

pub returns-clause-selected : goal.returns-clause-selected
returns-clause-selected c described is =
    all_taken c.args.volume.now c.args.filter.now c.args.today c.loop-row.row-index c.loop-row.names.items c.loop-row.invariant
    (omega (arith, c.loop-row-test.false, c.loop-row.auto.row-index-end, ap length c.as_slice-rows.ensures)) described.sets is.sets_are

pub returns-clause-rows : goal.returns-clause-rows
returns-clause-rows c =
    all_picked c.args.volume.now c.args.filter.now c.args.today c.loop-row.row-index c.loop-row.names.items c.loop-row.invariant
    (omega (arith, c.loop-row-test.false, c.loop-row.auto.row-index-end, ap length c.as_slice-rows.ensures))
