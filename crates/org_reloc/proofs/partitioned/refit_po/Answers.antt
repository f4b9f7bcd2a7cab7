use Rattle.std.proofs.lemmas.Result.{IfErr-weaker}
use Rattle.std.proofs.Common.{◌≡◌, ◌≤◌, length}
use Rattle.org_reloc.specs.declared.refit.Refit.{Refit}
use Rattle.org_reloc.specs.declared.fault.RelocFault.TheVariants.{NoMemory}
use Rattle.org_reloc.specs.Partitioned.{IsPartitionedRefit, IsPartitionedRefusal}
use Rattle.org_reloc.proofs.OneRefit.{only_memory}
use Rattle.org_reloc.proofs.partitioned.refit_po.Goals as goal

pub returns-clause-only : goal.returns-clause-only
returns-clause-only c =
    IfErr-weaker c.refit_members.result (IsPartitionedRefusal c.args.to c.args.tracks.now)
    (λ e. (refit : Refit) → IsPartitionedRefit c.args.to c.args.tracks.now refit → length refit.tracks ≤ 65535 → e ≡ NoMemory)
    (λ e refused. only_memory c.args.to c.args.tracks.now e refused) c.refit_members.ensures.refused
