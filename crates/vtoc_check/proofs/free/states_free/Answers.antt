use Rattle.std.proofs.Common.{◌∷◌, sym, ◌∙◌}
use Rattle.volume_model.specs.Check.{track_0}
use Rattle.vtoc_check.proofs.Stated.{all_stated, not_stated}
use Rattle.vtoc_check.proofs.free.states_free.Goals as goal

pub returns : goal.returns
returns c = λ vtoc extents are some.
    all_stated c.args.limit vtoc extents c.args.entries.now c.args.usable c.args.marks.now c.mark_runs.new.marks c.are_marked.result (sym c.all_end_by.ensures ∙ c.if-not-all_end_by.false)
    (sym (c.mark_runs.ensures.hit (track_0 ∷ vtoc ∷ extents) are some c.requires.some) ∙ c.if-mark_runs.false) are (c.mark_runs.ensures.marked c.if-mark_runs.false) c.are_marked.ensures

pub returns-then-mark_runs : goal.returns-then-mark_runs
returns-then-mark_runs c = λ vtoc extents are some.
    not_stated c.args.limit vtoc extents c.args.entries.now c.args.usable (sym (c.mark_runs.ensures.hit (track_0 ∷ vtoc ∷ extents) are some c.requires.some) ∙ c.if-mark_runs.true)
