use Rattle.std.proofs.Common.{arith}
use Rattle.dsn_filter.proofs.Rows.{byte_row_star, byte_row_one, row_at}
use Rattle.dsn_filter.proofs.matching.fits_part.Goals as goal

pub loop-place-preserved-then-wanted-eq42 : goal.loop-place-preserved-then-wanted-eq42
loop-place-preserved-then-wanted-eq42 c = (
  omega arith,
  row_at c.args.mask.now c.loop-place.place c.args.part.now c.loop-place.row c.spread.new.row c.loop-place-test.true c.loop-place.invariant.1
      (λ ps was. byte_row_star _ ps c.args.part.now c.loop-place.row c.spread.new.row c.if-wanted-eq42.true c.loop-place.invariant.0 (omega arith) c.spread.ensures was) (omega arith),
)

pub loop-place-preserved : goal.loop-place-preserved
loop-place-preserved c = (
  omega arith,
  row_at c.args.mask.now c.loop-place.place c.args.part.now c.loop-place.row c.step_byte.new.row c.loop-place-test.true c.loop-place.invariant.1
      (λ ps was. byte_row_one _ ps c.args.part.now c.loop-place.row c.step_byte.new.row c.if-wanted-eq42.false c.loop-place.invariant.0 (omega arith) c.step_byte.ensures was) (omega arith),
)
