use Rattle.std.proofs.Common.{◌≡◌}
use Rattle.dsn_filter.specs.Text.{dotted}
use Rattle.dsn_filter.specs.Dsn.{text_of, qualifiers_of, IsDsn}
use Rattle.dsn_filter.specs.Rename.{with_prefix}
use Rattle.dsn_filter.proofs.Renamed.{renamed_from}
use Rattle.dsn_filter.proofs.rename.prefixed.Goals as goal

is_renamed : (c : goal.After-joined_by_dot) → IsDsn c.joined_by_dot.result × (text_of c.joined_by_dot.result ≡ dotted (with_prefix (text_of c.args.prefix.now) (qualifiers_of c.args.name.now)))
is_renamed c =
    renamed_from c.args.prefix.now c.args.name.now c.joined_by_dot.result c.as_slice-prefix.result.now c.as_slice.result.now c.kept_part-kept.result.now
    c.requires.prefix c.requires.name c.as_slice-prefix.ensures c.as_slice.ensures c.kept_part-kept.ensures c.if-prefix-kept-gt44.false
    c.joined_by_dot.ensures.len c.joined_by_dot.ensures.text

pub returns-clause-lawful : goal.returns-clause-lawful
returns-clause-lawful c = (is_renamed c).0

pub returns-clause-named : goal.returns-clause-named
returns-clause-named c = (is_renamed c).1
