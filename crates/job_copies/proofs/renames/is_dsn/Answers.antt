use Rattle.job_copies.proofs.KeptNames.{read_is_name, other_is_none}
use Rattle.job_copies.proofs.renames.is_dsn.Goals as goal

pub returns-in-Ok : goal.returns-in-Ok
returns-in-Ok c =
    read_is_name c.args.name.now c.in-Ok.read c.as_slice.result.now c.is_same.result c.as_slice.ensures c.in-Ok.ensures.read.0 c.in-Ok.ensures.read.1 c.is_same.ensures

pub returns-in-Err : goal.returns-in-Err
returns-in-Err c = other_is_none c.args.name.now c.as_slice.result.now c.in-Err.field-0 c.as_slice.ensures c.in-Err.ensures.refused
