use Rattle.dsn_filter.proofs.Forms.{not_empty, name_is_full, name_next}
use Rattle.dsn_filter.proofs.part.name_goes_on.Goals as goal

pub returns-then-part-ge8 : goal.returns-then-part-ge8
returns-then-part-ge8 c =
    name_is_full c.args.part.now c.args.byte (not_empty c.args.part.now c.is_empty.result c.if-is_empty.false c.is_empty.ensures) c.if-part-ge8.true

pub returns : goal.returns
returns c =
    name_next c.args.part.now c.args.byte c.is_inner.result (not_empty c.args.part.now c.is_empty.result c.if-is_empty.false c.is_empty.ensures) c.if-part-ge8.false c.requires c.is_inner.ensures
