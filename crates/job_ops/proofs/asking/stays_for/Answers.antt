use Rattle.std.proofs.Common.{inl, ◌↔◌, IsTrue, not, sym, subst}
use Rattle.ckd_image.specs.Device.{heads_of}
use Rattle.job_ops.specs.declared.task.Task.{Task}
use Rattle.job_ops.specs.Task.{StaysFor}
use Rattle.job_ops.proofs.Looking.{stays_other}
use Rattle.job_ops.proofs.asking.stays_for.Goals as goal

pub returns-then-is_pinned : goal.returns-then-is_pinned
returns-then-is_pinned c = λ set has.
    subst (λ (task : Task). IsTrue c.is_pinned-is_pinned.result ↔ StaysFor task (heads_of c.args.volume.now.device) set) (sym c.in-Release.is)
    (λ s. inl ((c.is_pinned-is_pinned.ensures set has).0 c.if-is_pinned.true), λ h. c.if-is_pinned.true)

pub returns-else-is_pinned : goal.returns-else-is_pinned
returns-else-is_pinned c = λ set has.
    let heads = heads_of c.args.volume.now.device in
    let moves = c.is_sequential_or_partitioned.result in
    let stays = stays_other moves (c.is_pinned-is_pinned.ensures set has) c.if-is_pinned.false (c.is_sequential_or_partitioned.ensures heads set has) in
    subst (λ (task : Task). (IsTrue (not moves) ↔ StaysFor task heads set)) (sym c.in-Release.is) stays

pub returns-in-Consolidate : goal.returns-in-Consolidate
returns-in-Consolidate c = λ set has.
    subst (λ (task : Task). IsTrue c.is_pinned-is_pinned.result ↔ StaysFor task (heads_of c.args.volume.now.device) set) (sym c.in-Consolidate.is) (c.is_pinned-is_pinned.ensures set has)
