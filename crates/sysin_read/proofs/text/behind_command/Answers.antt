use Rattle.std.proofs.Common.{◌+◌, inr, refl}
use Rattle.sysin_read.specs.Reading.{open_in}
use Rattle.sysin_read.proofs.Taking.{behind_stops, unfinished_as}
use Rattle.sysin_read.proofs.text.behind_command.Goals as goal

pub returns-in_ok-with_command-in-Ok-clause-refused : goal.returns-in_ok-with_command-in-Ok-clause-refused
returns-in_ok-with_command-in-Ok-clause-refused c =
    let ended = c.in_ok-with_command-in-Ok.ensures in
    behind_stops (open_in c.args.outline) (c.args.outline.commands + 1) c.args.command c.in-Ok.command c.in_ok-with_command-in-Ok.field-0 c.args.placed.now c.behind.result c.in-Ok.ensures.given ended.0 ended.2 c.behind.ensures.refused

pub returns-in_ok-unfinished-in-Err : goal.returns-in_ok-unfinished-in-Err
returns-in_ok-unfinished-in-Err c = record {
  taken = tt;
  refused = inr (c.in_ok-unfinished-in-Err.field-0, refl, inr (c.known_of.result, unfinished_as c.args.command c.in-Err.fault c.known_of.result c.in-Err.ensures.early c.known_of.ensures, c.in_ok-unfinished-in-Err.ensures));
}
