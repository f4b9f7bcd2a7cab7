use Rattle.std.proofs.Common.{replicate, refl}
use Rattle.dsn_filter.proofs.Renamed.{put_joined}
use Rattle.dsn_filter.proofs.rename.joined_by_dot.Goals as goal

pub returns-clause-text : goal.returns-clause-text
returns-clause-text c =
    put_joined c.args.front.now c.args.behind.now (replicate 44 0) c.put_over.new.bytes c.put_over-2.new.bytes c.put_over-3.new.bytes c.requires refl
    c.put_over.ensures c.put_over-2.ensures c.put_over-3.ensures
