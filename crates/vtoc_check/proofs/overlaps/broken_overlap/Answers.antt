use Rattle.std.proofs.Common.{List, sym, ◌∙◌, subst, take, arith}
use Rattle.free_map.specs.declared.run.Run.{Run}
use Rattle.volume_model.specs.declared.rule.VtocRule.TheVariants as rules
use Rattle.vtoc_check.specs.Tracks.{AreTracksOf}
use Rattle.vtoc_check.proofs.FirstFound.{first_found, none_found}
use Rattle.vtoc_check.proofs.Overlapping.{used_by, used_have, used_more, breaks, hit_breaks, none_more, overlapping, overlapping_found}
use Rattle.vtoc_check.proofs.overlaps.broken_overlap.Goals as goal

pub returns-then-branch : goal.returns-then-branch
returns-then-branch c =
    let heads = c.args.heads in
    let limit = c.args.limit in
    let records = c.args.records.now in
    let i = c.loop-placed.placed-index in
    let hit = hit_breaks heads limit c.args.vtoc records i c.in_ok-mark_record.field-0
    (c.in_ok-mark_record.ensures.hit (used_by heads limit c.args.vtoc (take i records)) c.loop-placed.invariant.marked (used_have heads limit c.args.vtoc (take i records) c.requires.vtoc)) in
    first_found rules.Overlap records (breaks heads limit c.args.vtoc records) (overlapping heads limit c.args.vtoc records) i c.requires.in_order (overlapping_found heads limit c.args.vtoc records) c.loop-placed-test.true
    (sym hit ∙ c.if-branch.true) c.loop-placed.invariant.none

pub loop-placed-preserved : goal.loop-placed-preserved
loop-placed-preserved c =
    let heads = c.args.heads in
    let limit = c.args.limit in
    let records = c.args.records.now in
    let i = c.loop-placed.placed-index in
    let before = used_by heads limit c.args.vtoc (take i records) in
    let hit = hit_breaks heads limit c.args.vtoc records i c.in_ok-mark_record.field-0
    (c.in_ok-mark_record.ensures.hit before c.loop-placed.invariant.marked (used_have heads limit c.args.vtoc (take i records) c.requires.vtoc)) in
    let P : List Run → Type 0 = λ runs. AreTracksOf runs c.mark_record.new.marks in
    record {
      long = c.in_ok-mark_record.ensures.long ∙ c.loop-placed.invariant.long;
      marked = subst P (used_more heads limit c.args.vtoc records i c.loop-placed-test.true) (c.in_ok-mark_record.ensures.marked c.if-branch.false before c.loop-placed.invariant.marked);
      none = none_more (breaks heads limit c.args.vtoc records) i c.loop-placed.invariant.none (sym hit ∙ c.if-branch.false);
    }

pub returns : goal.returns
returns c =
    let heads = c.args.heads in
    let limit = c.args.limit in
    let records = c.args.records.now in
    none_found rules.Overlap records (breaks heads limit c.args.vtoc records) (overlapping heads limit c.args.vtoc records) (overlapping_found heads limit c.args.vtoc records)
    (λ k lt. c.loop-placed.invariant.none k (omega (arith, lt, c.loop-placed-test.false)))
