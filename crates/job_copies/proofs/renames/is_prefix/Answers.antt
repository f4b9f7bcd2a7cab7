use Rattle.job_copies.proofs.KeptNames.{read_is_prefix, other_is_no_prefix}
use Rattle.job_copies.proofs.renames.is_prefix.Goals as goal

pub returns-in-Ok : goal.returns-in-Ok
returns-in-Ok c =
    read_is_prefix c.args.name.now c.to_name.result c.as_slice.result.now c.in-Ok.word c.is_same.result c.as_slice.ensures c.in-Ok.ensures.read.1
    c.to_name.ensures.prefix c.to_name.ensures.same c.is_same.ensures

pub returns-in-Err : goal.returns-in-Err
returns-in-Err c = other_is_no_prefix c.args.name.now c.as_slice.result.now c.in-Err.field-0 c.as_slice.ensures c.in-Err.ensures.refused
