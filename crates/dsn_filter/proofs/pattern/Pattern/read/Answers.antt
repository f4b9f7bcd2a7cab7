use Rattle.dsn_filter.proofs.Named.{pattern_spelled}
use Rattle.dsn_filter.proofs.pattern.Pattern.read.Goals as goal

pub returns-in_ok-parts-in-Ok-clause-read : goal.returns-in_ok-parts-in-Ok-clause-read
returns-in_ok-parts-in-Ok-clause-read c =
    pattern_spelled c.args.text.now c.scan.new.capital c.in-Ok.len c.in_ok-parts-in-Ok.parts c.in-Ok.ensures.read.0 c.in-Ok.ensures.read.1 c.in-Ok.ensures.read.2 c.in_ok-parts-in-Ok.ensures
