use Rattle.std.proofs.lemmas.Result.{IfErr-weaker}
use Rattle.std.proofs.Common.{◌≡◌, ◌≤◌, length}
use Rattle.org_reloc.specs.declared.refit.Refit.{Refit}
use Rattle.org_reloc.specs.declared.fault.RelocFault.TheVariants.{NoMemory}
use Rattle.org_reloc.specs.Sequential.{IsRefit, IsRefusal}
use Rattle.org_reloc.proofs.Unique.{only_memory}
use Rattle.org_reloc.proofs.sequential.refit_ps.Goals as goal

pub returns-clause-only : goal.returns-clause-only
returns-clause-only c =
    IfErr-weaker c.refit_content.result (IsRefusal c.args.to c.args.tracks.now c.args.last)
    (λ e. (refit : Refit) → IsRefit c.args.to c.args.tracks.now c.args.last refit → length refit.tracks ≤ 65535 → e ≡ NoMemory)
    (λ e refused. only_memory c.args.to c.args.tracks.now c.args.last e refused) c.refit_content.ensures.refused
