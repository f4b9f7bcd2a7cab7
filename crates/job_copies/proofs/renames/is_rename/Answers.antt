use Rattle.std.proofs.Common.{◌↔◌, List, All, IsTrue, sym, subst}
use Rattle.dsn_filter.specs.declared.dsn.Dsn.{Dsn}
use Rattle.dsn_filter.specs.declared.rename.Rename.{Rename}
use Rattle.dsn_filter.specs.Dsn.{IsDsn}
use Rattle.dsn_filter.specs.Rename.{IsRename}
use Rattle.job_copies.proofs.renames.is_rename.Goals as goal

pub returns-in-Listed : goal.returns-in-Listed
returns-in-Listed c =
    subst (λ (rename : Rename). IsTrue c.are_names.result ↔ IsRename rename) (sym c.in-Listed.is)
    (subst (λ (pairs : List (Dsn × Dsn)). IsTrue c.are_names.result ↔ All (λ pair. IsDsn pair.0 × IsDsn pair.1) pairs) c.as_slice.ensures c.are_names.ensures)
