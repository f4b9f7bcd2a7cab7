use Rattle.std.proofs.Common.{List, All, sym, subst}
use Rattle.by_rules.specs.declared.criterion.Criterion.{Criterion}
use Rattle.by_rules.specs.Criterion.{IsSound}
use Rattle.by_rules.proofs.Reader.{read_is_spelled}
use Rattle.by_rules.proofs.Shifts.{spelled_sound}
use Rattle.by_rules.proofs.reading.Reading.finish.Goals as goal

pub of-requires : goal.of-requires
of-requires c =
    let spelled = read_is_spelled c.requires.read.0 c.args.self c.requires.read.1 c.requires.ended in
    let sound : All IsSound c.args.self.criteria = spelled_sound c.requires.read.0 c.args.self.criteria spelled in
    subst (λ (t : List Criterion). All IsSound t) (sym c.into_criteria.ensures) sound
