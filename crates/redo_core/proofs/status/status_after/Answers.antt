use Rattle.std.proofs.Common.{◌≡◌, ◌+◌, ◌∙◌, ◌++◌, List, [], ◌∷◌, take, sym, ap}
use Rattle.std.specs.Prelude.{if◌then◌else◌}
use Rattle.std.proofs.lemmas.List.{take_more}
use Rattle.dasd_pool.specs.Disk.{is_at}
use Rattle.redo_core.specs.declared.control.Control.{Control}
use Rattle.redo_core.specs.declared.entries.Entry.{Entry}
use Rattle.redo_core.specs.Format.{control_in, is_filling}
use Rattle.redo_core.specs.Reading.{control_after, fills_after, fills_of}
use Rattle.redo_core.proofs.Controls.{control_more, fills_more, choice_at}
use Rattle.redo_core.proofs.status.status_after.Goals as goal

pub loop-entry-preserved : goal.loop-entry-preserved
loop-entry-preserved g c =
    let journal = c.args.journal in
    let i = c.loop-entry.entry-index in
    let entry = c.entry-item.result in
    let so_far = take i c.args.entries.now in
    let here = is_at journal 2 entry.unit entry.block in
    let more : take (i + 1) c.args.entries.now ≡ so_far ++ entry ∷ [] =
    take_more c.args.entries.now i entry c.loop-entry-test.true ∙ ap (λ (e : Entry). so_far ++ e ∷ []) (sym c.entry-item.is) in
    record {
      control = c.status_with-status.ensures.control
          ∙ ap (λ (control : Control). if here then control_in entry.slot else control) c.loop-entry.invariant.control
          ∙ sym (control_more journal so_far entry c.args.before.control)
          ∙ ap (λ (list : List Entry). control_after journal list c.args.before.control) (sym more);
      fills = λ u less. c.status_with-status.ensures.fills u less
          ∙ choice_at here (is_filling entry.slot) (fills_of c.loop-entry.status.fills) (fills_after journal so_far (fills_of c.args.before.fills)) u (c.loop-entry.invariant.fills u less)
          ∙ (λ k. sym (fills_more journal so_far entry (fills_of c.args.before.fills)) k u)
          ∙ (λ k. fills_after journal (sym more k) (fills_of c.args.before.fills) u);
    }
