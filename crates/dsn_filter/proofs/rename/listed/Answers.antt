use Rattle.std.proofs.lemmas.Bool.{iff_false}
use Rattle.dsn_filter.proofs.Renamed.{listed_here, listed_later}
use Rattle.dsn_filter.proofs.rename.listed.Goals as goal

pub returns-then-is_same : goal.returns-then-is_same
returns-then-is_same c =
    c.loop-old.invariant _ (listed_here c.args.pairs.now c.loop-old.old-index _ c.args.name.now c.loop-old-test.true (c.is_same.ensures.0 c.if-is_same.true))

pub loop-old-preserved : goal.loop-old-preserved
loop-old-preserved c = λ new h.
    c.loop-old.invariant new (listed_later c.args.pairs.now c.loop-old.old-index _ c.args.name.now new c.loop-old-test.true (iff_false c.is_same.ensures c.if-is_same.false) h)
