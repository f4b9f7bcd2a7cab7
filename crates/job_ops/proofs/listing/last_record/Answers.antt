use Rattle.std.proofs.Common.{rules, refl}
use Rattle.volume_model.specs.Reads.{fields_of_1}
use Rattle.job_ops.proofs.Summaries.{last_record_kept}
use Rattle.job_ops.proofs.listing.last_record.Goals as goal

pub returns : goal.returns
returns c = last_record_kept c.args.f1.now (search rules) (fields_of_1 c.args.f1.now) refl
