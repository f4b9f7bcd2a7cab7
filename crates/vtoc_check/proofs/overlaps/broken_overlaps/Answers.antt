use Rattle.std.proofs.Common.{List, map, subst}
use Rattle.std.specs.Prelude.{IfOk}
use Rattle.volume_model.specs.declared.place.Placed.{Placed}
use Rattle.volume_model.specs.declared.rule.VtocRule.TheVariants as rules
use Rattle.volume_model.specs.Check.{breach, IsLowestOf}
use Rattle.vtoc_check.proofs.Overlapping.{overlapping}
use Rattle.vtoc_check.proofs.overlaps.broken_overlaps.Goals as goal

pub returns : goal.returns
returns c =
    let vtoc = c.args.vtoc.now in
    let P : List Placed → Type 0 = λ records. IfOk c.broken_overlap.result (IsLowestOf (map (breach rules.Overlap) (overlapping vtoc.heads vtoc.limit vtoc.run records))) in
    subst P c.requires.records c.broken_overlap.ensures
