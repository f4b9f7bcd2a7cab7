use Rattle.job_copies.specs.Reasons.{IsCopyHeld}
use Rattle.job_copies.proofs.Tests.{either_first, either_second}
use Rattle.job_copies.proofs.copying.Copying.is_held.Goals as goal

pub returns-then-is_origin_held : goal.returns-then-is_origin_held
returns-then-is_origin_held c case are = either_first (IsCopyHeld c.args.held.now case) (c.is_origin_held.ensures case are) c.if-is_origin_held.true

pub returns-else-is_origin_held : goal.returns-else-is_origin_held
returns-else-is_origin_held c case are =
    either_second (IsCopyHeld c.args.held.now case) (c.is_origin_held.ensures case are) c.if-is_origin_held.false c.is_copy_held.result (c.is_copy_held.ensures case are)
