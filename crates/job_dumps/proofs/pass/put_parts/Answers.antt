use Rattle.std.proofs.Common.{ℕ, ◌+◌, List, [], ◌∷◌, ◌++◌, take, get_or, refl, sym, subst, ◌∙◌}
use Rattle.std.proofs.lemmas.List.{take_all, take_more}
use Rattle.std.proofs.lemmas.Result.{err_from_is_err_and}
use Rattle.dasd_pool.proofs.Streams.{rose_since}
use Rattle.dsn_filter.specs.declared.dsn.Dsn.{Dsn}
use Rattle.job_turns.proofs.job_acts.Loaded.{are_sound}
use Rattle.job_turns.proofs.job_acts.Sessions.{for_new}
use Rattle.unit_load.specs.declared.state.UnitState.{UnitState}
use Rattle.job_dumps.specs.Passing.{CanBeChanged, DumpedCanBeChanged, request_in}
use Rattle.job_dumps.proofs.Changeable.{one_more_changeable}
use Rattle.job_dumps.proofs.Looks.{looks_itself, looks_then}
use Rattle.job_dumps.proofs.Passed.{none_passed, all_passed, cut_between, may_put, one_passed, cut_within, told_as, pushed, next_left}
use Rattle.job_dumps.proofs.pass.put_parts.Goals as goal

abbrev no_name : Dsn
no_name = record { len = 0; text = [] }

pub loop-name-init : goal.loop-name-init
loop-name-init g c = record {
  looks = looks_itself g.P.Pool c.args.session.now;
  passed = none_passed g.P.Pool _ c.args.session.now (request_in c.args.scene) c.args.names.now c.args.writer.now.progress c.args.writer.now.outs.items c.new-told.result.items c.new-told.ensures.items;
  places = refl;
  may = subst (DumpedCanBeChanged c.args.session.now.units c.args.scene []) (sym c.new-told.ensures.items) (tt {0});
}

pub take_turn-requires-clause-may : goal.take_turn-requires-clause-may
take_turn-requires-clause-may g c =
    may_put g.P.Pool _ c.args.session.now c.loop-name.session (request_in c.args.scene) c.args.names.now c.args.writer.now.progress c.args.writer.now.outs.items
    c.requires.begun (are_sound _ _ c.args.session.now.units c.stands.ensures.kept) c.loop-name.invariant.looks c.loop-name.name-index no_name c.loop-name-test.true c.loop-name.writer.progress
    c.loop-name.writer.outs.items c.loop-name.told.items c.loop-name.invariant.passed

pub take_turn-requires-clause-full : goal.take_turn-requires-clause-full
take_turn-requires-clause-full g c = λ changes. for_new g.P.Pool c.loop-name.invariant.looks.same (c.requires.full changes)

pub returns-in_err-reason-clause-looks : goal.returns-in_err-reason-clause-looks
returns-in_err-reason-clause-looks g c = looks_then g.P.Pool c.loop-name.invariant.looks c.in_err-reason.ensures.looks

pub returns-in_err-reason-clause-left : goal.returns-in_err-reason-clause-left
returns-in_err-reason-clause-left g c =
    let p = err_from_is_err_and c.from_residual.result c.from_residual.ensures.1 in
    rw p.1
    (cut_within g.P.Pool _ c.args.session.now c.loop-name.session (request_in c.args.scene) c.args.names.now c.args.writer.now.progress c.args.writer.now.outs.items
    c.requires.begun (are_sound _ _ c.args.session.now.units c.stands.ensures.kept) c.loop-name.invariant.looks c.loop-name.name-index no_name c.loop-name-test.true c.loop-name.writer.progress
    c.loop-name.writer.outs.items c.loop-name.told.items c.loop-name.invariant.passed
    c.take_turn.new.writer.progress c.take_turn.new.writer.outs.items (next_left c.args.names.now c.loop-name.name-index no_name c.loop-name-test.true) c.in_err-reason.ensures.left)

pub returns-in_err-reason-clause-cause : goal.returns-in_err-reason-clause-cause
returns-in_err-reason-clause-cause g c =
    let p = err_from_is_err_and c.from_residual.result c.from_residual.ensures.1 in
    rw (p.1, p.2)
    (λ pool. rose_since (g.P.Pool.faults c.args.session.now.pool) (g.P.Pool.faults c.loop-name.session.pool) (g.P.Pool.faults c.take_turn.new.session.pool)
    c.loop-name.invariant.looks.run.later (c.in_err-reason.ensures.cause pool))

pub returns-then-is_err-clause-looks : goal.returns-then-is_err-clause-looks
returns-then-is_err-clause-looks g c = looks_then g.P.Pool c.loop-name.invariant.looks c.in_ok-reason.ensures.looks

pub returns-then-is_err-clause-left : goal.returns-then-is_err-clause-left
returns-then-is_err-clause-left g c =
    cut_between g.P.Pool _ c.args.session.now (request_in c.args.scene) c.args.names.now c.args.writer.now.progress c.args.writer.now.outs.items (c.loop-name.name-index + 1)
    c.take_turn.new.writer.progress c.take_turn.new.writer.outs.items (c.loop-name.told.items ++ c.in_ok-reason.reason ∷ [])
    (one_passed g.P.Pool _ c.args.session.now c.loop-name.session (request_in c.args.scene) c.args.names.now c.args.writer.now.progress c.args.writer.now.outs.items
    c.requires.begun (are_sound _ _ c.args.session.now.units c.stands.ensures.kept) c.loop-name.invariant.looks c.loop-name.name-index no_name c.loop-name-test.true c.loop-name.writer.progress
    c.loop-name.writer.outs.items c.loop-name.told.items c.loop-name.invariant.passed
    c.take_turn.new.writer.progress c.take_turn.new.writer.outs.items c.in_ok-reason.reason (take_more c.args.names.now c.loop-name.name-index no_name c.loop-name-test.true)
    c.in_ok-reason.ensures.put)

pub loop-name-preserved : goal.loop-name-preserved
loop-name-preserved g c = record {
  looks = looks_then g.P.Pool c.loop-name.invariant.looks c.in_ok-reason.ensures.looks;
  passed =
      told_as g.P.Pool _ c.args.session.now (request_in c.args.scene) c.args.names.now c.args.writer.now.progress c.args.writer.now.outs.items (c.loop-name.name-index + 1)
      c.take_turn.new.writer.progress c.take_turn.new.writer.outs.items
      (pushed c.push.result c.loop-name.told.items c.push.new.self.items c.in_ok-reason.reason c.push.ensures.items (sym c.is_err.ensures.value ∙ c.if-is_err.false))
      (one_passed g.P.Pool _ c.args.session.now c.loop-name.session (request_in c.args.scene) c.args.names.now c.args.writer.now.progress c.args.writer.now.outs.items
      c.requires.begun (are_sound _ _ c.args.session.now.units c.stands.ensures.kept) c.loop-name.invariant.looks c.loop-name.name-index no_name c.loop-name-test.true c.loop-name.writer.progress
      c.loop-name.writer.outs.items c.loop-name.told.items c.loop-name.invariant.passed
      c.take_turn.new.writer.progress c.take_turn.new.writer.outs.items c.in_ok-reason.reason (take_more c.args.names.now c.loop-name.name-index no_name c.loop-name-test.true)
      c.in_ok-reason.ensures.put);
  places = ◌∙◌ {A = List ℕ} c.take_turn.ensures.places c.loop-name.invariant.places;
  may =
      let units = c.args.session.now.units in
      let names = c.args.names.now in
      let name = get_or names c.loop-name.name-index no_name in
      subst (λ (list : List Dsn). DumpedCanBeChanged units c.args.scene list c.push.new.self.items) (sym (take_more names c.loop-name.name-index no_name c.loop-name-test.true))
      (subst (DumpedCanBeChanged units c.args.scene (take c.loop-name.name-index names ++ name ∷ []))
      (sym (pushed c.push.result c.loop-name.told.items c.push.new.self.items c.in_ok-reason.reason c.push.ensures.items (sym c.is_err.ensures.value ∙ c.if-is_err.false)))
      (one_more_changeable units c.args.scene (take c.loop-name.name-index names) c.loop-name.told.items name c.in_ok-reason.reason c.loop-name.invariant.may
      (λ none. subst (λ (states : List UnitState). CanBeChanged states c.args.scene name) c.loop-name.invariant.looks.same.units (c.in_ok-reason.ensures.may none))));
}

pub returns-clause-looks : goal.returns-clause-looks
returns-clause-looks g c = c.loop-name.invariant.looks

pub returns-clause-put : goal.returns-clause-put
returns-clause-put g c =
    all_passed g.P.Pool _ c.args.session.now (request_in c.args.scene) c.args.names.now c.args.writer.now.progress c.args.writer.now.outs.items c.loop-name.name-index c.loop-name.writer.progress
    c.loop-name.writer.outs.items c.loop-name.told.items (take_all c.loop-name.name-index c.args.names.now c.loop-name-test.false) c.loop-name.invariant.passed

pub returns-clause-may : goal.returns-clause-may
returns-clause-may g c =
    subst (λ (list : List Dsn). DumpedCanBeChanged c.args.session.now.units c.args.scene list c.loop-name.told.items) (take_all c.loop-name.name-index c.args.names.now c.loop-name-test.false)
    c.loop-name.invariant.may
