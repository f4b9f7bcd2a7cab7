use Rattle.std.proofs.Common.{ℕ, IsTrue, ◌↔◌, sym, ap, subst}
use Rattle.ckd_image.specs.Device.{heads_of}
use Rattle.volume_model.specs.Unit.{DataSet}
use Rattle.volume_model.specs.Pinned.{IsPinned}
use Rattle.job_restores.proofs.Replaced.{replaced_holds, none_holds}
use Rattle.job_restores.proofs.restoring.Restoring.is_replaced_pinned.Goals as goal

pub returns-in-Some : goal.returns-in-Some
returns-in-Some c case are =
    replaced_holds c.requires.may are (λ (set : DataSet). IsPinned (heads_of case.to.device) set.name set.fields set.extents) c.in-Some.row.now c.in-Some.ensures.found c.is_pinned.result
    (λ set has. subst (λ (heads : ℕ). IsTrue c.is_pinned.result ↔ IsPinned heads set.name set.fields set.extents) (sym (ap heads_of are.to_is.device_is)) (c.is_pinned.ensures set has))

pub returns-in-None : goal.returns-in-None
returns-in-None c case are = none_holds c.requires.may are (λ (set : DataSet). IsPinned (heads_of case.to.device) set.name set.fields set.extents) c.in-None.ensures.none
