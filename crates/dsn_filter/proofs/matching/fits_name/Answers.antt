use Rattle.std.proofs.Common.{◌+◌, ◌-◌, ℕ, List, [], length, take, drop, set, replicate, false, true, subst, sym, ◌∙◌, arith}
use Rattle.std.proofs.lemmas.Bool.{iff_false}
use Rattle.std.proofs.lemmas.List.{drop_all, get_or_read}
use Rattle.dsn_filter.specs.Text.{qualifiers}
use Rattle.dsn_filter.specs.Matching.{Matches}
use Rattle.dsn_filter.proofs.Rows.{IsRow, name_row_start, name_row_any, name_row_one, row_at_part}
use Rattle.dsn_filter.proofs.matching.fits_name.Goals as goal

pub loop-place-init : goal.loop-place-init
loop-place-init c =
    let starts = name_row_start (qualifiers c.args.name.now) c.count_parts-count.result c.count_parts-count.ensures c.requires.few in (
      starts.0,
      subst (λ (ps : List (List ℕ)). IsRow (λ (at : ℕ). Matches ps (drop at (qualifiers c.args.name.now)))
          (set (take (c.count_parts-count.result + 1) (replicate 23 false)) c.count_parts-count.result true)) (sym (drop_all (length c.args.parts.now) c.args.parts.now (omega arith))) starts.1,
    )

pub loop-place-preserved-then-same : goal.loop-place-preserved-then-same
loop-place-preserved-then-same c =
    let part-is = c.as_slice-part.ensures.same ∙ get_or_read c.args.parts.now (c.loop-place.place - 1) c.index-parts-place.result (omega arith) c.index-parts-place.is [] in (
      omega arith,
      row_at_part c.args.parts.now c.loop-place.place (qualifiers c.args.name.now) c.as_slice-part.result.now c.loop-place.row c.spread.new.row c.loop-place-test.true (omega arith) part-is c.loop-place.invariant.1
          (λ ps was. name_row_any c.as_slice-part.result.now ps (qualifiers c.args.name.now) c.loop-place.row c.spread.new.row (c.same.ensures.0 c.if-same.true) c.loop-place.invariant.0 (omega arith) c.spread.ensures was),
    )

pub loop-place-preserved : goal.loop-place-preserved
loop-place-preserved c =
    let part-is = c.as_slice-part.ensures.same ∙ get_or_read c.args.parts.now (c.loop-place.place - 1) c.index-parts-place.result (omega arith) c.index-parts-place.is [] in (
      omega arith,
      row_at_part c.args.parts.now c.loop-place.place (qualifiers c.args.name.now) c.as_slice-part.result.now c.loop-place.row c.step_part.new.row c.loop-place-test.true (omega arith) part-is c.loop-place.invariant.1
          (λ ps was. name_row_one c.as_slice-part.result.now ps (qualifiers c.args.name.now) c.loop-place.row c.step_part.new.row (iff_false c.same.ensures c.if-same.false) c.loop-place.invariant.0 (omega arith) c.step_part.ensures was),
    )
