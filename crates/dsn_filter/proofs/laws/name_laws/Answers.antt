use Rattle.dsn_filter.specs.Text.{IsText}
use Rattle.dsn_filter.specs.Qualifier.{IsQualifier, IsPatternPart}
use Rattle.dsn_filter.specs.Dsn.{IsNameText}
use Rattle.dsn_filter.proofs.Forms.{name_form, pattern_form}
use Rattle.dsn_filter.proofs.Named.{spelled_is}
use Rattle.dsn_filter.proofs.OneReading.{one_place, one_name, one_rename}
use Rattle.dsn_filter.proofs.laws.name_laws.Goals as goal

pub returns : goal.returns
returns c = record {
  spelling = λ spelled text h. spelled_is IsQualifier name_form spelled text h;
  pattern = λ spelled text h. spelled_is IsPatternPart pattern_form spelled text h;
  name = one_name;
  place = λ text place other h k. one_place IsNameText text place other h k;
  pattern_place = λ text place other h k. one_place (IsText IsPatternPart) text place other h k;
  rename = one_rename;
}
