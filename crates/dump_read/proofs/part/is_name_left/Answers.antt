use Rattle.std.proofs.Common.{refl}
use Rattle.std.specs.Option.{option_copied}
use Rattle.dump_read.proofs.Names.{names_left}
use Rattle.dump_read.proofs.part.is_name_left.Goals as goal

pub returns : goal.returns
returns c = names_left (option_copied c.args.before) c.is_behind.result _ refl c.is_behind.ensures.0 c.is_behind.ensures.1
