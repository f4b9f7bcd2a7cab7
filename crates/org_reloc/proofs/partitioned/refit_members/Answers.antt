use Rattle.std.proofs.lemmas.Result.{IfOk-weaker, IfErr-weaker, err_from_is_err_and}
use Rattle.org_reloc.specs.Packing.{HaveRoom}
use Rattle.org_reloc.specs.Partitioned.{IsPartitionedRefit, HoldsTheItems, IsPartitionedRefusal}
use Rattle.org_reloc.specs.Taken.{IsPut, IsPutRefusal}
use Rattle.org_reloc.proofs.Against.{taking_refused, put_refused}
use Rattle.org_reloc.proofs.Partitions.{whole_is, refit_is, same_is}
use Rattle.org_reloc.proofs.partitioned.refit_members.Goals as goal

pub returns-clause-refit : goal.returns-clause-refit
returns-clause-refit c =
    IfOk-weaker c.put.result (IsPut c.args.to c.in_ok-movable.movable) (IsPartitionedRefit c.args.to c.args.tracks.now)
    (λ refit h. refit_is c.args.to c.args.tracks.now refit (whole_is c.args.to c.args.tracks.now c.in_ok-movable.movable refit c.in_ok-movable.ensures.taken c.in_ok-movable.ensures.placeable h)) c.put.ensures.put

pub returns-clause-same : goal.returns-clause-same
returns-clause-same c =
    IfOk-weaker c.put.result (IsPut c.args.to c.in_ok-movable.movable) (HoldsTheItems c.args.tracks.now)
    (λ refit h. same_is c.args.to c.args.tracks.now refit (whole_is c.args.to c.args.tracks.now c.in_ok-movable.movable refit c.in_ok-movable.ensures.taken c.in_ok-movable.ensures.placeable h)) c.put.ensures.put

pub returns-clause-room : goal.returns-clause-room
returns-clause-room c =
    IfOk-weaker c.put.result (IsPut c.args.to c.in_ok-movable.movable) (λ refit. HaveRoom c.args.to refit.tracks)
    (λ refit h. (whole_is c.args.to c.args.tracks.now c.in_ok-movable.movable refit c.in_ok-movable.ensures.taken c.in_ok-movable.ensures.placeable h).room) c.put.ensures.put

pub returns-clause-refused : goal.returns-clause-refused
returns-clause-refused c =
    IfErr-weaker c.put.result (IsPutRefusal c.args.to c.in_ok-movable.movable) (IsPartitionedRefusal c.args.to c.args.tracks.now)
    (λ e h. put_refused c.args.to c.args.tracks.now c.in_ok-movable.movable e c.in_ok-movable.ensures.taken h) c.put.ensures.refused

pub returns-in_err-movable-clause-refused : goal.returns-in_err-movable-clause-refused
returns-in_err-movable-clause-refused c =
    let p = err_from_is_err_and c.from_residual.result c.from_residual.ensures.1 in
    rw (p.1, p.2) (taking_refused c.args.to c.args.tracks.now c.in_err-movable.field-0.0 c.in_err-movable.ensures.refused)
