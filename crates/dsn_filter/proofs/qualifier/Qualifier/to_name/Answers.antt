use Rattle.std.proofs.Common.{refl}
use Rattle.dsn_filter.specs.declared.dsn.Dsn.{Dsn}
use Rattle.dsn_filter.specs.Rename.{IsPrefix}
use Rattle.dsn_filter.proofs.Renamed.{prefix_lawful, word_prefix}
use Rattle.dsn_filter.proofs.qualifier.Qualifier.to_name.Goals as goal

made : (c : goal.After-text-2-1) → Dsn
made c = record { len = c.args.self.now.len; text = c.put_over.new.bytes }

is_prefix : (c : goal.After-text-2-1) → IsPrefix (made c)
unfolding made
is_prefix c = word_prefix c.args.self.now (made c) c.as_slice.result.now c.requires c.as_slice.ensures refl c.put_over.ensures

pub returns-clause-name : goal.returns-clause-name
unfolding made
returns-clause-name c = prefix_lawful (made c) (is_prefix c)

pub returns-clause-prefix : goal.returns-clause-prefix
unfolding made
returns-clause-prefix c = is_prefix c
