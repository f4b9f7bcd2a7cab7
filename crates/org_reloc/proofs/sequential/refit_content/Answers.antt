use Rattle.std.proofs.lemmas.Result.{IfOk-weaker}
use Rattle.org_reloc.specs.Packing.{HaveRoom}
use Rattle.org_reloc.specs.Sequential.{IsBlocksRefit, IsRefit, HoldsTheSame}
use Rattle.org_reloc.proofs.Refits.{refit_is, same_is, room_is}
use Rattle.org_reloc.proofs.sequential.refit_content.Goals as goal

pub returns-clause-refit : goal.returns-clause-refit
returns-clause-refit c =
    IfOk-weaker c.refit_blocks.result (IsBlocksRefit c.args.to c.in_ok-content.content) (IsRefit c.args.to c.args.tracks.now c.args.last)
    (λ refit h. refit_is c.args.to c.args.tracks.now c.args.last c.in_ok-content.content refit c.in_ok-content.ensures.content h) c.refit_blocks.ensures.refit

pub returns-clause-same : goal.returns-clause-same
returns-clause-same c =
    IfOk-weaker c.refit_blocks.result (IsBlocksRefit c.args.to c.in_ok-content.content) (HoldsTheSame c.args.tracks.now c.args.last)
    (λ refit h. same_is c.args.to c.args.tracks.now c.args.last c.in_ok-content.content refit c.in_ok-content.ensures.content h) c.refit_blocks.ensures.refit

pub returns-clause-room : goal.returns-clause-room
returns-clause-room c =
    IfOk-weaker c.refit_blocks.result (IsBlocksRefit c.args.to c.in_ok-content.content) (λ refit. HaveRoom c.args.to refit.tracks)
    (λ refit h. room_is c.args.to c.in_ok-content.content refit c.in_ok-content.ensures.blocks h) c.refit_blocks.ensures.refit
