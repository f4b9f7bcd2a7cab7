use Rattle.std.proofs.Common.{◌≤◌, Option, subst, arith}
use Rattle.unit_session.specs.declared.copies.GivenTracks.{GivenTracks}
use Rattle.vtoc_layout.specs.Layout.{AreDistinct}
use Rattle.unit_session.specs.Given.{OnGiven, count_given}
use Rattle.unit_session.specs.Planned.{PlannedView}
use Rattle.unit_session.proofs.GivenPlans.{few_given, given_once}
use Rattle.unit_session.proofs.planned.Planned.to_give.Goals as goal

pub overflow_cast-result : goal.overflow_cast-result
overflow_cast-result g c =
    let inv = c.self.invariant in
    let session = c.self.inside.session in
    let few = few_given (g.P.Pool.shape session.pool) session.units c.self.inside.plan c.self.inside.work.given inv.may_give inv.plan inv.given in
    omega (arith, c.len.ensures, subst (λ (some : Option GivenTracks). count_given some ≤ 65535) c.in-Some.is few)

pub returns-in-Some-clause-once : goal.returns-in-Some-clause-once
returns-in-Some-clause-once g c =
    let inv = c.self.invariant in
    subst (λ (v : PlannedView _). OnGiven (λ given. AreDistinct given.tracks.items) v.given) c.self.view_is
    (given_once c.self.inside.session.units c.self.inside.plan c.self.inside.work.given inv.plan inv.given)
