use Rattle.std.proofs.Common.{inr, refl}
use Rattle.sysin_read.specs.declared.fault.Why.TheVariants as whys
use Rattle.sysin_read.specs.Statement.{IsElse, IsEnd}
use Rattle.sysin_read.proofs.Taking.{not_so, next_goes, next_stops}
use Rattle.sysin_read.proofs.text.behind.Goals as goal

pub returns-then-not-placed-clause-refused : goal.returns-then-not-placed-clause-refused
returns-then-not-placed-clause-refused c =
    let no_else = not_so (IsElse c.args.placed.now) c.is_else_token.result c.is_else_token.ensures c.if-is_else_token.false in
    let no_end = not_so (IsEnd c.args.placed.now) c.is_end_token.result c.is_end_token.ensures c.if-is_end_token.false in
    inr (whys.Word, refl, inr (inr (no_else, no_end, inr (c.if-not-placed.true, refl))))

pub returns-clause-taken : goal.returns-clause-taken
returns-clause-taken c =
    next_goes c.args.outline c.in_ok-close_parts.field-0 c.args.placed.now c.begin.result c.if-not-placed.false c.in_ok-close_parts.ensures c.begin.ensures.taken

pub returns-clause-refused : goal.returns-clause-refused
returns-clause-refused c =
    let no_else = not_so (IsElse c.args.placed.now) c.is_else_token.result c.is_else_token.ensures c.if-is_else_token.false in
    let no_end = not_so (IsEnd c.args.placed.now) c.is_end_token.result c.is_end_token.ensures c.if-is_end_token.false in
    next_stops c.args.outline c.in_ok-close_parts.field-0 c.args.placed.now c.begin.result no_else no_end c.if-not-placed.false c.in_ok-close_parts.ensures c.begin.ensures.refused
