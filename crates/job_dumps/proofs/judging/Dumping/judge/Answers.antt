use Rattle.std.proofs.Common.{ℕ, sym, ap, subst}
use Rattle.std.proofs.lemmas.Bool.{iff_false}
use Rattle.ckd_image.specs.Device.{heads_of}
use Rattle.volume_model.specs.Pinned.{IsPinned}
use Rattle.job_turns.proofs.job_copies.Rows.{few_extents}
use Rattle.job_dumps.proofs.Judged.{pinned_first, held_first, spared_first, none_first, moves}
use Rattle.job_dumps.proofs.judging.Dumping.judge.Goals as goal

pub returns-then-is_fixed-clause-refused : goal.returns-then-is_fixed-clause-refused
returns-then-is_fixed-clause-refused c volume set is are =
    pinned_first c.args.held.now c.args.today c.args.self.now.wish volume c.args.self.now.name set
    (subst (λ (heads : ℕ). IsPinned heads set.name set.fields set.extents) (sym (ap heads_of is.device_is)) ((c.is_fixed.ensures set are).0 c.if-is_fixed.true))

pub returns-then-is_held-clause-refused : goal.returns-then-is_held-clause-refused
returns-then-is_held-clause-refused c volume set is are =
    held_first c.args.held.now c.args.today c.args.self.now.wish volume c.args.self.now.name set (moves volume set is (iff_false (c.is_fixed.ensures set are) c.if-is_fixed.false))
    (c.is_held.ensures.0 c.if-is_held.true)

pub returns-then-is_spared-clause-refused : goal.returns-then-is_spared-clause-refused
returns-then-is_spared-clause-refused c volume set is are =
    spared_first c.args.held.now c.args.today c.args.self.now.wish volume c.args.self.now.name set (moves volume set is (iff_false (c.is_fixed.ensures set are) c.if-is_fixed.false))
    (iff_false c.is_held.ensures c.if-is_held.false) ((c.is_spared.ensures set are).0 c.if-is_spared.true)

pub returns-clause-goes : goal.returns-clause-goes
returns-clause-goes c volume set is are =
    none_first c.args.held.now c.args.today c.args.self.now.wish volume c.args.self.now.name set (moves volume set is (iff_false (c.is_fixed.ensures set are) c.if-is_fixed.false))
    (iff_false c.is_held.ensures c.if-is_held.false) (iff_false (c.is_spared.ensures set are) c.if-is_spared.false)

pub returns-clause-few : goal.returns-clause-few
returns-clause-few c = few_extents (heads_of c.args.self.now.volume.now.device) c.args.self.now.row.now c.is_fixed.result c.is_fixed.ensures c.if-is_fixed.false
