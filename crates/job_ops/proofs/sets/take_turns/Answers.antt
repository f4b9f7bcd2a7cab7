use Rattle.std.proofs.Common.{◌+◌, [], drop, get_or}
use Rattle.std.proofs.lemmas.List.{drop_all}
use Rattle.std.proofs.lemmas.Result.{err_from_is_err_and}
use Rattle.dsn_filter.specs.declared.dsn.Dsn.{Dsn}
use Rattle.job_ops.specs.Meaning.{TurnOf}
use Rattle.job_ops.proofs.OneTurn.{may_one, may_later}
use Rattle.dump_sets.proofs.job_turns.Names.{first_left}
use Rattle.dump_sets.proofs.job_turns.Turning.{leads_begin, leads_more, leads_cut, leads_end}
use Rattle.job_ops.proofs.sets.take_turns.Goals as goal

abbrev no_name : Dsn
no_name = record { len = 0; text = [] }

pub loop-name-init : goal.loop-name-init
loop-name-init g c = record {
  to = leads_begin g.P.Pool (TurnOf c.args.task c.args.scene.held.now c.args.scene.unit) c.args.names.now c.args.session c.args.log.now.steps.items c.args.log.now.messages.items;
  may = c.requires.may;
}

pub loop-name-preserved : goal.loop-name-preserved
loop-name-preserved g c =
    let names = c.args.names.now in
    let index = c.loop-name.name-index in
    let name = get_or names index no_name in
    let is = first_left names index no_name c.loop-name-test.true in
    record {
      to = leads_more g.P.Pool (TurnOf c.args.task c.args.scene.held.now c.args.scene.unit) c.loop-name.invariant.to {name = name} is c.in_ok-session.ensures.ends;
      may = may_later name (drop index names) (drop (index + 1) names) is c.loop-name.invariant.may c.in_ok-session.ensures.next c.in_ok-session.ensures.ends.facts.room;
    }

pub take_turn-requires : goal.take_turn-requires
take_turn-requires g c =
    let names = c.args.names.now in
    let index = c.loop-name.name-index in
    record { may = may_one (get_or names index no_name) (drop index names) (drop (index + 1) names) (first_left names index no_name c.loop-name-test.true) c.loop-name.invariant.may }

pub returns-in_err-session : goal.returns-in_err-session
returns-in_err-session g c =
    let names = c.args.names.now in
    let index = c.loop-name.name-index in
    let p = err_from_is_err_and c.from_residual.result c.from_residual.ensures.1 in
    rw (p.1, p.2)
    (leads_cut g.P.Pool (TurnOf c.args.task c.args.scene.held.now c.args.scene.unit) c.loop-name.invariant.to {name = get_or names index no_name} (first_left names index no_name c.loop-name-test.true)
    c.in_err-session.ensures.ends)

pub returns : goal.returns
returns g c =
    leads_end g.P.Pool (TurnOf c.args.task c.args.scene.held.now c.args.scene.unit) c.loop-name.invariant.to (drop_all c.loop-name.name-index c.args.names.now c.loop-name-test.false)
