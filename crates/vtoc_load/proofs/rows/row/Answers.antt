use Rattle.std.proofs.Common.{◌<◌, length, ◌∙◌, arith}
use Rattle.vtoc_check.specs.Places.{blank}
use Rattle.vtoc_load.proofs.SortedRows.{chain_short}
use Rattle.vtoc_load.proofs.rows.row.Goals as goal

pub overflow_cast-result : goal.overflow_cast-result
overflow_cast-result c =
    let all = c.args.directory.now.records.items in
    let is = (c.in_ok-set.ensures blank.place).1 in
    let few = chain_short c.args.directory.now.heads all (length all) c.args.bytes.now in
    let small : length all < 4294967296 = c.requires in
    omega (arith, is, few, small)

pub returns-clause-row : goal.returns-clause-row
returns-clause-row c =
    let set = c.in_ok-set.ensures blank.place in
    (λ i. record { format_1 = c.args.bytes.now; extents = (c.in_ok-numbered.ensures ∙ c.deref.ensures.value ∙ set.0) i; threes = set.1 i })
