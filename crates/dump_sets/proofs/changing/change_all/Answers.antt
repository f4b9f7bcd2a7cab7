use Rattle.std.proofs.Common.{◌<◌, ◌+◌, [], drop, get_or, ℕ, sym, subst}
use Rattle.std.proofs.lemmas.List.{drop_all}
use Rattle.std.proofs.lemmas.Result.{err_from_is_err_and}
use Rattle.dasd_pool.specs.Disk.{Shape}
use Rattle.dsn_filter.specs.declared.dsn.Dsn.{Dsn}
use Rattle.redo_core.specs.Reading.{journal_of}
use Rattle.job_dumps.proofs.job_turns.Names.{first_left}
use Rattle.job_dumps.proofs.job_turns.Turning.{leads_begin, leads_more, leads_cut, leads_end}
use Rattle.dump_sets.specs.Changing.{ChangesSet, MayChangeSets}
use Rattle.dump_sets.proofs.ChangeOrder.{may_first, may_others, apart_others}
use Rattle.dump_sets.proofs.changing.change_all.Goals as goal

abbrev no_name : Dsn
no_name = record { len = 0; text = [] }

pub loop-name-init : goal.loop-name-init
loop-name-init g c = record {
  to = leads_begin g.P.Pool (ChangesSet c.args.wish c.args.unit) c.args.names.now c.args.session c.args.log.now.steps.items c.args.log.now.messages.items;
  may = c.requires.may;
  apart = c.requires.apart;
}

pub change-requires-clause-unit : goal.change-requires-clause-unit
change-requires-clause-unit g c = subst (λ (shape : Shape). c.args.unit < journal_of shape) (sym c.loop-name.invariant.to.keeps.shape) c.requires.unit

pub change-requires-clause-may : goal.change-requires-clause-may
change-requires-clause-may g c =
    let names = c.args.names.now in
    let index = c.loop-name.name-index in
    may_first (get_or names index no_name) (drop (index + 1) names) (first_left names index no_name c.loop-name-test.true) c.loop-name.invariant.may

pub returns-in_err-session : goal.returns-in_err-session
returns-in_err-session g c =
    let names = c.args.names.now in
    let index = c.loop-name.name-index in
    let p = err_from_is_err_and c.from_residual.result c.from_residual.ensures.1 in
    rw (p.1, p.2)
    (leads_cut g.P.Pool (ChangesSet c.args.wish c.args.unit) c.loop-name.invariant.to {name = get_or names index no_name} (first_left names index no_name c.loop-name-test.true)
    c.in_err-session.ensures.ends)

pub loop-name-preserved : goal.loop-name-preserved
loop-name-preserved g c =
    let names = c.args.names.now in
    let index = c.loop-name.name-index in
    let name = get_or names index no_name in
    let is = first_left names index no_name c.loop-name-test.true in
    record {
      to = leads_more g.P.Pool (ChangesSet c.args.wish c.args.unit) c.loop-name.invariant.to {name = name} is c.in_ok-session.ensures.ends;
      may =
          subst (λ (room : ℕ). MayChangeSets room c.in_ok-session.session.units c.args.unit (drop (index + 1) names)) (sym c.in_ok-session.ensures.ends.facts.room)
          (may_others name (drop (index + 1) names) is c.loop-name.invariant.may c.loop-name.invariant.apart c.in_ok-session.ensures.next);
      apart = apart_others name (drop (index + 1) names) is c.loop-name.invariant.may c.loop-name.invariant.apart;
    }

pub returns : goal.returns
returns g c =
    leads_end g.P.Pool (ChangesSet c.args.wish c.args.unit) c.loop-name.invariant.to (drop_all c.loop-name.name-index c.args.names.now c.loop-name-test.false)
