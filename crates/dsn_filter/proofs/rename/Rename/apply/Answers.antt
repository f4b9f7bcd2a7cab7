use Rattle.std.proofs.Common.{List, subst}
use Rattle.std.proofs.lemmas.List.Elements.{recursion_from_All}
use Rattle.dsn_filter.specs.declared.dsn.Dsn.{Dsn}
use Rattle.dsn_filter.specs.Dsn.{IsDsn}
use Rattle.dsn_filter.specs.Rename.{IsRename, IsListed}
use Rattle.dsn_filter.proofs.Renamed.{listed_lawful}
use Rattle.dsn_filter.proofs.rename.Rename.apply.Goals as goal

pub returns-in-Listed-clause-lawful : goal.returns-in-Listed-clause-lawful
returns-in-Listed-clause-lawful c =
    let pairs : List (Dsn × Dsn) = c.in-Listed.pairs in
    let each = subst IsRename c.in-Listed.is c.requires.rename in
    listed_lawful pairs c.args.name.now c.listed.result (recursion_from_All (λ (pair : Dsn × Dsn). IsDsn pair.0 × IsDsn pair.1) pairs each) c.requires.name
    (subst (λ (ps : List (Dsn × Dsn)). IsListed ps c.args.name.now c.listed.result) c.as_slice.ensures c.listed.ensures)
