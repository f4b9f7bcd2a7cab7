use Rattle.std.proofs.Common.{arith}
use Rattle.job_select.proofs.Counts.{row_extents_few}
use Rattle.job_select.proofs.Picks.{takes_where}
use Rattle.job_select.proofs.selection.takes.Goals as goal

pub overflow_cast-extents : goal.overflow_cast-extents
overflow_cast-extents c = omega (arith, c.len-extents.ensures, row_extents_few c.args.volume.now c.requires.sound c.args.row.now c.requires.there.there)

pub returns : goal.returns
returns c set is =
    takes_where c.args.volume.now c.args.row.now c.args.name.now c.args.filter.now c.args.today set c.is_selected.result _ _ c.row_facts-facts.result _ _ c.requires.there is
    c.as_slice-include.ensures c.as_slice-exclude.ensures c.len-extents.ensures c.track_count.ensures.count c.row_facts-facts.ensures c.is_selected.ensures
