use Rattle.std.proofs.Common.{◌<◌, ◌+◌, [], drop, get_or, ℕ, sym, subst}
use Rattle.std.proofs.lemmas.List.{drop_all}
use Rattle.std.proofs.lemmas.Result.{err_from_is_err_and}
use Rattle.dasd_pool.specs.Disk.{Shape}
use Rattle.dsn_filter.specs.declared.dsn.Dsn.{Dsn}
use Rattle.redo_core.specs.Reading.{journal_of}
use Rattle.job_ops.specs.Copy.{CopiesSet}
use Rattle.job_ops.specs.Copying.{request_in, MayBeCopied}
use Rattle.job_ops.proofs.CopyOrder.{may_first, may_others, apart_others}
use Rattle.dump_sets.proofs.job_turns.Names.{first_left}
use Rattle.dump_sets.proofs.job_turns.Turning.{leads_begin, leads_more, leads_cut, leads_end}
use Rattle.job_ops.proofs.copies.take_turns.Goals as goal

abbrev no_name : Dsn
no_name = record { len = 0; text = [] }

pub loop-name-init : goal.loop-name-init
loop-name-init g c = record {
  to = leads_begin g.P.Pool (CopiesSet (request_in c.args.scene)) c.args.names.now c.args.session c.args.log.now.steps.items c.args.log.now.messages.items;
  may = c.requires.may;
  apart = c.requires.apart;
}

pub loop-name-preserved : goal.loop-name-preserved
loop-name-preserved g c =
    let names = c.args.names.now in
    let index = c.loop-name.name-index in
    let name = get_or names index no_name in
    let is = first_left names index no_name c.loop-name-test.true in
    record {
      to = leads_more g.P.Pool (CopiesSet (request_in c.args.scene)) c.loop-name.invariant.to {name = name} is c.in_ok-session.ensures.ends;
      may =
          subst (λ (room : ℕ). MayBeCopied c.args.scene.wish.delete room c.in_ok-session.session.units c.args.scene.from c.args.scene.to (drop (index + 1) names)) (sym c.in_ok-session.ensures.ends.facts.room)
          (may_others name (drop (index + 1) names) is c.loop-name.invariant.may c.loop-name.invariant.apart c.in_ok-session.ensures.next);
      apart = apart_others name (drop (index + 1) names) is c.loop-name.invariant.may c.loop-name.invariant.apart;
    }

pub take_turn-requires : goal.take_turn-requires
take_turn-requires g c =
    let names = c.args.names.now in
    let index = c.loop-name.name-index in
    record {
      from = subst (λ (shape : Shape). c.args.scene.from < journal_of shape) (sym c.loop-name.invariant.to.keeps.shape) c.requires.from;
      to = subst (λ (shape : Shape). c.args.scene.to < journal_of shape) (sym c.loop-name.invariant.to.keeps.shape) c.requires.to;
      rename = c.requires.rename;
      may = may_first (get_or names index no_name) (drop (index + 1) names) (first_left names index no_name c.loop-name-test.true) c.loop-name.invariant.may;
    }

pub returns-in_err-session : goal.returns-in_err-session
returns-in_err-session g c =
    let names = c.args.names.now in
    let index = c.loop-name.name-index in
    let p = err_from_is_err_and c.from_residual.result c.from_residual.ensures.1 in
    rw (p.1, p.2)
    (leads_cut g.P.Pool (CopiesSet (request_in c.args.scene)) c.loop-name.invariant.to {name = get_or names index no_name} (first_left names index no_name c.loop-name-test.true)
    c.in_err-session.ensures.ends)

pub returns : goal.returns
returns g c =
    leads_end g.P.Pool (CopiesSet (request_in c.args.scene)) c.loop-name.invariant.to (drop_all c.loop-name.name-index c.args.names.now c.loop-name-test.false)
