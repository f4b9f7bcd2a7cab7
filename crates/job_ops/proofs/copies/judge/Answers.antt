use Rattle.std.proofs.Common.{refl, sym, subst}
use Rattle.job_ops.specs.declared.copies.Judged.{Judged}
use Rattle.job_ops.specs.Copying.{request_in, IsJudged, MayStandAs}
use Rattle.dump_sets.proofs.job_turns.LoadedUnits.{known_units}
use Rattle.job_ops.proofs.CopyParts.{copying_in, may_copy, copied_case, judged_placed, judged_none, stands_so, at_some, at_none}
use Rattle.job_ops.proofs.copies.judge.Goals.{in-Some, in-None}
use Rattle.job_ops.proofs.copies.judge.Goals as goal

pub judge-requires : goal.judge-requires
judge-requires g c =
    let known = known_units g.P.Pool c.args.session.now c.stands.ensures.kept c.stands.ensures.models in
    record { may = may_copy (copying_in {request = request_in c.args.scene} known c.volume-source.ensures c.volume-target.ensures refl refl refl refl) c.requires.may c.requires.new }

pub places-requires : goal.places-requires
places-requires g c =
    let known = known_units g.P.Pool c.args.session.now c.stands.ensures.kept c.stands.ensures.models in
    record { may = may_copy (copying_in {request = request_in c.args.scene} known c.volume-source.ensures c.volume-target.ensures refl refl refl refl) c.requires.may c.requires.new }

pub returns-in-Err-clause-judged : goal.returns-in-Err-clause-judged
returns-in-Err-clause-judged g c told units settled case is =
    let known = known_units g.P.Pool c.args.session.now c.stands.ensures.kept c.stands.ensures.models in
    c.in-Err.ensures.refused case (copied_case (copying_in {request = request_in c.args.scene} known c.volume-source.ensures c.volume-target.ensures refl refl refl refl) told units settled case is)

pub returns-clause-judged : goal.returns-clause-judged
returns-clause-judged g c told units settled =
    let request = request_in c.args.scene in
    let known = known_units g.P.Pool c.args.session.now c.stands.ensures.kept c.stands.ensures.models in
    elim c.match-branch-2.branch [
      | in-Some w ↦
          subst (λ (judged : Judged). IsJudged request c.args.name.now c.args.new judged units) (sym w.result-is)
          (judged_placed (copying_in {request = request} known c.volume-source.ensures c.volume-target.ensures refl refl refl refl) c.in-Ok.ensures.goes
          (at_some _ w.in-Some.is c.in_ok-runs.ensures.chosen) told units settled)
      | in-None w ↦
          subst (λ (judged : Judged). IsJudged request c.args.name.now c.args.new judged units) (sym w.result-is)
          (judged_none (copying_in {request = request} known c.volume-source.ensures c.volume-target.ensures refl refl refl refl) c.in-Ok.ensures.goes
          (at_none _ w.in-None.is c.in_ok-runs.ensures.none) told units settled)
    ]

pub returns-clause-stands : goal.returns-clause-stands
returns-clause-stands g c =
    let scene = c.args.scene in
    let units = c.args.session.now.units in
    elim c.match-branch-2.branch [
      | in-Some w ↦
          subst (λ (judged : Judged). MayStandAs units scene.from scene.to c.args.name.now c.args.new judged) (sym w.result-is)
          (stands_so c.volume-source.ensures c.volume-target.ensures c.in-Ok.ensures.few
          (at_some _ w.in-Some.is c.in_ok-runs.ensures.free) c.in-Ok.ensures.clear c.in-Ok.ensures.apart)
      | in-None w ↦ subst (λ (judged : Judged). MayStandAs units scene.from scene.to c.args.name.now c.args.new judged) (sym w.result-is) (tt {0})
    ]

pub volume-source-requires : goal.volume-source-requires
volume-source-requires g c = (c.requires.may.source, c.requires.may.source_loaded)

pub volume-target-requires : goal.volume-target-requires
volume-target-requires g c = (c.requires.may.target.volume, c.requires.may.target.loaded)
