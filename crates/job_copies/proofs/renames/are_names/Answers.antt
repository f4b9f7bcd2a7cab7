use Rattle.std.proofs.Common.{rules, tests}
use Rattle.std.proofs.lemmas.Iterator.{cases_from_all, YieldsList-from_slice}
use Rattle.dsn_filter.specs.declared.dsn.Dsn.{Dsn}
use Rattle.dsn_filter.specs.Dsn.{IsDsn}
use Rattle.job_copies.proofs.KeptNames.{all_decided}
use Rattle.job_copies.proofs.renames.are_names.Goals as goal

pub returns : goal.returns
returns c =
    let Are : Dsn × Dsn → Type 0 = λ pair. IsDsn pair.0 × IsDsn pair.1 in
    all_decided Are c.all.result c.args.pairs.now
    (cases_from_all _ _ _ Are (λ pair. ¬ Are pair) c.all.ensures.ran (YieldsList-from_slice c.args.pairs.now cc) (λ x q k. search (rules, tests)) (λ x q k. search (rules, tests)))
