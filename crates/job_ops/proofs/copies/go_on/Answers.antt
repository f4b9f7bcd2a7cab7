use Rattle.std.proofs.Common.{Vec, Global, inl, refl, ap, subst}
use Rattle.move_core.specs.declared.steps.Step.{Step}
use Rattle.job_lines.specs.declared.message.Reason.TheVariants as reasons
use Rattle.job_ops.specs.declared.copies.Judged.{Judged}
use Rattle.job_ops.specs.Copying.{request_in, IsJudged, MayStandAs}
use Rattle.dump_sets.proofs.job_turns.LoadedUnits.{known_units}
use Rattle.job_ops.proofs.CopyGoesOn.{is_name, may_transfer, tells_first, tells_no_space, ends_not}
use Rattle.job_ops.proofs.copies.go_on.Goals as goal

pub not_copied-requires : goal.not_copied-requires
not_copied-requires g c = is_name c.requires.may

pub not_copied-requires-in-NoPlaces : goal.not_copied-requires-in-NoPlaces
not_copied-requires-in-NoPlaces g c = is_name c.requires.may

pub put_copy-requires-clause-may : goal.put_copy-requires-clause-may
put_copy-requires-clause-may g c =
    may_transfer c.requires.may c.requires.renamed.0
    (subst (MayStandAs c.args.session.units c.args.scene.from c.args.scene.to c.args.name.now c.args.new) c.in-Placed.is c.requires.stands) (known_units g.P.Pool c.args.session c.stands.ensures.kept c.stands.ensures.models).sound

pub put_copy-requires-clause-goes : goal.put_copy-requires-clause-goes
put_copy-requires-clause-goes g c told units settled =
    (subst (λ (judged : Judged). IsJudged (request_in c.args.scene) c.args.name.now c.args.new judged units) c.in-Placed.is (c.requires.judged told units settled)).0

pub put_copy-requires-clause-replaced : goal.put_copy-requires-clause-replaced
put_copy-requires-clause-replaced g c told units settled =
    (subst (λ (judged : Judged). IsJudged (request_in c.args.scene) c.args.name.now c.args.new judged units) c.in-Placed.is (c.requires.judged told units settled)).1

pub put_copy-requires-clause-placed : goal.put_copy-requires-clause-placed
put_copy-requires-clause-placed g c told units settled =
    (subst (λ (judged : Judged). IsJudged (request_in c.args.scene) c.args.name.now c.args.new judged units) c.in-Placed.is (c.requires.judged told units settled)).2

pub returns-in-Refused-clause-ends : goal.returns-in-Refused-clause-ends
returns-in-Refused-clause-ends g c =
    ends_not g.P.Pool c.args.name.now c.in-Refused.reason c.not_copied.result (ap (λ (list : Vec Step Global). list.items) c.not_copied.ensures.steps) c.not_copied.ensures.said c.not_copied.ensures.short
    (λ text named told units settled.
    tells_first (c.requires.there told units settled) c.requires.renamed c.in-Refused.reason
    (subst (λ (judged : Judged). IsJudged (request_in c.args.scene) c.args.name.now c.args.new judged units) c.in-Refused.is (c.requires.judged told units settled)) text named)
    (λ units. inl (refl, refl))

pub returns-in-NoPlaces-clause-ends : goal.returns-in-NoPlaces-clause-ends
returns-in-NoPlaces-clause-ends g c =
    ends_not g.P.Pool c.args.name.now reasons.NoSpace c.not_copied-in-NoPlaces.result (ap (λ (list : Vec Step Global). list.items) c.not_copied-in-NoPlaces.ensures.steps) c.not_copied-in-NoPlaces.ensures.said
    c.not_copied-in-NoPlaces.ensures.short
    (λ text named told units settled.
    tells_no_space (c.requires.there told units settled) c.requires.renamed
    (subst (λ (judged : Judged). IsJudged (request_in c.args.scene) c.args.name.now c.args.new judged units) c.in-NoPlaces.is (c.requires.judged told units settled))
    (c.requires.texts told units settled) text named)
    (λ units. inl (refl, refl))
