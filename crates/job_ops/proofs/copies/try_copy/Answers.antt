use Rattle.std.proofs.Common.{◌<◌, List, Vec, Global, inl, refl, sym, ap, subst, ◌∙◌}
use Rattle.std.proofs.lemmas.Bool.{false≢true}
use Rattle.dasd_pool.specs.Disk.{Shape}
use Rattle.redo_core.specs.Reading.{journal_of}
use Rattle.unit_load.specs.declared.state.UnitState.{UnitState}
use Rattle.move_core.specs.declared.steps.Step.{Step}
use Rattle.job_lines.specs.declared.message.Reason.TheVariants as reasons
use Rattle.job_ops.specs.declared.copies.Judged.{Judged}
use Rattle.job_ops.specs.Copying.{request_in, IsJudged, MayStandAs}
use Rattle.dump_sets.specs.job_turns.job_steps.Units.{facts_of}
use Rattle.job_ops.proofs.CopyGoesOn.{is_name, has_source, tells_first, tells_bad, goes_on, ends_not, not_stays, copied_as, stays_from}
use Rattle.dump_sets.proofs.job_turns.SameSessions.{halted, short}
use Rattle.dump_sets.proofs.job_turns.job_acts.Sessions.{for_new}
use Rattle.dump_sets.proofs.job_turns.SameSessions.{ends_after}
use Rattle.job_ops.proofs.copies.try_copy.Goals as goal

pub not_copied-requires : goal.not_copied-requires
not_copied-requires g c = is_name c.requires.may

pub returns-in-Refused-clause-ends : goal.returns-in-Refused-clause-ends
returns-in-Refused-clause-ends g c =
    ends_not g.P.Pool c.args.name.now c.in-Refused.reason c.not_copied.result (ap (λ (list : Vec Step Global). list.items) c.not_copied.ensures.steps) c.not_copied.ensures.said c.not_copied.ensures.short
    (λ text named told units settled.
    tells_first (c.requires.there told units settled) c.requires.renamed c.in-Refused.reason
    (subst (λ (judged : Judged). IsJudged (request_in c.args.scene) c.args.name.now c.args.new judged units) c.in-Refused.is (c.requires.judged told units settled)) text named)
    (λ units. inl (refl, refl))

pub has_texts-requires : goal.has_texts-requires
has_texts-requires g c = has_source c.requires.may

pub go_on-requires : goal.go_on-requires
go_on-requires g c =
    let same = c.has_texts.ensures.same in
    record {
      from = subst (λ (shape : Shape). c.args.scene.from < journal_of shape) (sym same.shape) c.requires.from;
      to = subst (λ (shape : Shape). c.args.scene.to < journal_of shape) (sym same.shape) c.requires.to;
      may = copied_as g.P.Pool same c.requires.may;
      there = for_new g.P.Pool same c.requires.there;
      renamed = c.requires.renamed;
      judged = for_new g.P.Pool same c.requires.judged;
      stands = subst (λ (units : List UnitState). MayStandAs units c.args.scene.from c.args.scene.to c.args.name.now c.args.new c.args.judged) (sym same.units) c.requires.stands;
      texts =
          for_new g.P.Pool same
          (λ told units settled case is.
          (c.in-Ok-true.ensures.texts told (facts_of g.P.Pool c.args.session) units case.from case.set refl settled is.source_is is.there is.named).0 c.in-Ok-true.field-0-test);
    }

pub returns-in-Ok-true : goal.returns-in-Ok-true
returns-in-Ok-true g c = record {
  ends = ends_after g.P.Pool c.has_texts.ensures.run c.has_texts.ensures.same c.go_on.ensures.ends;
  next = stays_from g.P.Pool c.has_texts.ensures.same c.args.scene.wish.delete c.args.scene.from c.args.scene.to c.args.name.now c.go_on.result c.go_on.ensures.next;
}

pub not_copied-requires-in-Ok-false : goal.not_copied-requires-in-Ok-false
not_copied-requires-in-Ok-false g c = is_name c.requires.may

pub returns-in-Ok-false : goal.returns-in-Ok-false
returns-in-Ok-false g c =
    let same = c.has_texts.ensures.same in
    record {
      ends =
          ends_after g.P.Pool c.has_texts.ensures.run same
          (ends_not g.P.Pool c.args.name.now reasons.BadTrack c.not_copied-in-Ok-false.result (ap (λ (list : Vec Step Global). list.items) c.not_copied-in-Ok-false.ensures.steps)
          c.not_copied-in-Ok-false.ensures.said c.not_copied-in-Ok-false.ensures.short
          (λ text named. for_new g.P.Pool same
          (λ told units settled.
          tells_bad (c.requires.there told units settled) c.requires.renamed (goes_on c.args.judged c.in_default.not-Refused (c.requires.judged told units settled))
          (λ case is good.
          false≢true (sym c.in-Ok-false.field-0-test
          ∙ (c.in-Ok-false.ensures.texts told (facts_of g.P.Pool c.args.session) units case.from case.set refl settled is.source_is is.there is.named).1 good)) text named))
          (λ units. inl (refl, refl)));
      next =
          stays_from g.P.Pool same c.args.scene.wish.delete c.args.scene.from c.args.scene.to c.args.name.now c.not_copied-in-Ok-false.result
          (not_stays g.P.Pool c.args.name.now reasons.BadTrack c.has_texts.new.self c.args.log.now.messages.items c.not_copied-in-Ok-false.new.log.messages.items c.args.scene.wish.delete
          c.has_texts.new.self.room c.args.scene.from c.args.scene.to c.not_copied-in-Ok-false.result c.not_copied-in-Ok-false.ensures.said);
    }

pub returns-in-Err-Pool : goal.returns-in-Err-Pool
returns-in-Err-Pool g c = record {
  ends = halted g.P.Pool c.has_texts.ensures.run c.has_texts.ensures.same c.into.result (c.in-Err-Pool.ensures.cause c.in-Err-Pool.field-0-is) c.into.ensures.0 c.into.ensures.1;
  next = tt;
}

pub returns : goal.returns
returns g c = record { ends = short g.P.Pool c.has_texts.ensures.run c.has_texts.ensures.same; next = tt }
