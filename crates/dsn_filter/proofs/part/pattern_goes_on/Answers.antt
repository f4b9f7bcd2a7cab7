use Rattle.std.proofs.Common.{inl, inr}
use Rattle.std.proofs.lemmas.Bool.{iff_false}
use Rattle.dsn_filter.proofs.Forms.{not_empty, no_two_stars, star_next, part_is_full, part_next}
use Rattle.dsn_filter.proofs.part.pattern_goes_on.Goals as goal
use Rattle.dsn_filter.proofs.part.pattern_goes_on.Goals.{then-same-via-then-same, then-same-via-else-same+then-part-ge8}

pub returns-then-byte-eq42 : goal.returns-then-byte-eq42
returns-then-byte-eq42 c =
    star_next c.args.part.now c.args.byte (not_empty c.args.part.now c.is_empty.result c.if-is_empty.false c.is_empty.ensures) c.if-part-eq42.true c.if-byte-eq42.true

pub returns-then-same : goal.returns-then-same
returns-then-same c =
    part_is_full c.args.part.now c.args.byte (not_empty c.args.part.now c.is_empty.result c.if-is_empty.false c.is_empty.ensures)
    (no_two_stars _ c.args.byte c.else-part-eq42.either)
    (elim c.then-same.branch [ then-same-via-then-same w ↦ inl (c.same.ensures.0 w.if-same.true) | then-same-via-else-same+then-part-ge8 w ↦ inr w.if-part-ge8.true ])

pub returns : goal.returns
returns c =
    part_next c.args.part.now c.args.byte c.is_pattern_byte.result (not_empty c.args.part.now c.is_empty.result c.if-is_empty.false c.is_empty.ensures)
    (no_two_stars _ c.args.byte c.else-part-eq42.either) (iff_false c.same.ensures c.if-same.false) c.if-part-ge8.false c.requires c.is_pattern_byte.ensures
