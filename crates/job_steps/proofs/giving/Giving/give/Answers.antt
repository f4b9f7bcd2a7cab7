use Rattle.std.proofs.Common.{◌-◌, ◌<◌, [], ◌∷◌, refl, sym, ap, subst}
use Rattle.volume_model.specs.Unit.{good}
use Rattle.job_steps.specs.Giving.{GivesMore, GivingView}
use Rattle.job_steps.proofs.Givings.{gives_one}
use Rattle.job_steps.proofs.giving.Giving.give.Goals as goal

pub returns-clause-given : goal.returns-clause-given
returns-clause-given g c =
    let given = c.to_give.ensures in
    let next = c.in_ok-planned.ensures in
    let old : GivingView _ = record { planned = c.self.inside.planned; left = c.self.inside.left } in
    let new : GivingView _ = record { planned = c.in_ok-planned.planned; left = c.self.inside.left - 1 } in
    subst (λ (v : GivingView _). GivesMore g.P.Pool v new (good c.args.track.now ∷ [])) c.self.view_is
    (gives_one g.P.Pool old new (c.to_give.result - c.self.inside.left) c.args.track.now (ap (λ n. n - c.self.inside.left) given.count) (subst (λ (v : GivingView _). 0 < v.left) (sym c.self.view_is) c.requires.place) c.self.invariant.left refl
    (record { plan = next.plan; given = next.given; room = next.session.0; names = next.session.1; units = next.session.2 }) given.once next.writes next.text)
