use Rattle.std.proofs.Common.{rules, ◌≡◌, sym, ◌∙◌}
use Rattle.volume_model.specs.Dscbs.{number_at}
use Rattle.job_select.proofs.KeptFields.{organization_kept}
use Rattle.job_select.proofs.judged.organization.Goals as goal

pub returns : goal.returns
returns c = let read : c.from_be_bytes.result ≡ number_at c.args.f1.now 82 = search rules in read ∙ sym (organization_kept c.args.f1.now c.told-f1)
