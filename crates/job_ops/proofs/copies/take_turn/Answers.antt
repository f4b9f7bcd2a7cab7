use Rattle.std.proofs.Common.{List, ℕ, Vec, Global, inl, refl, ap, subst, ◌<◌, length}
use Rattle.std.specs.Prelude.{IfNone}
use Rattle.dsn_filter.specs.Rename.{Renames}
use Rattle.move_core.specs.declared.steps.Step.{Step}
use Rattle.job_lines.specs.declared.message.Reason.TheVariants as reasons
use Rattle.job_ops.proofs.CopyEnds.{tells_long}
use Rattle.job_ops.proofs.CopyGoesOn.{is_name, ends_not}
use Rattle.job_ops.proofs.CopyParts.{is_there}
use Rattle.dump_sets.proofs.job_turns.LoadedUnits.{known_units}
use Rattle.dump_sets.proofs.job_turns.SameSessions.{ends_short}
use Rattle.job_ops.proofs.copies.take_turn.Goals as goal

pub apply-requires-clause-name : goal.apply-requires-clause-name
apply-requires-clause-name g c = is_name c.requires.may

pub not_copied-requires : goal.not_copied-requires
not_copied-requires g c = is_name c.requires.may

pub returns-in_default-clause-ends : goal.returns-in_default-clause-ends
returns-in_default-clause-ends g c =
    let long = subst (λ found. IfNone found ((text : List ℕ) × Renames c.args.scene.rename.now c.args.name.now text × (44 < length text))) c.in_default.is c.apply.ensures.long in
    ends_not g.P.Pool c.args.name.now reasons.NewNameTooLong c.not_copied.result (ap (λ (list : Vec Step Global). list.items) c.not_copied.ensures.steps) c.not_copied.ensures.said c.not_copied.ensures.short
    (λ text named told units settled. tells_long (is_there c.requires.may (known_units g.P.Pool c.args.session c.stands.ensures.kept c.stands.ensures.models) told units settled) text long named) (λ units. inl (refl, refl))

pub returns-in-Err-clause-ends : goal.returns-in-Err-clause-ends
returns-in-Err-clause-ends g c = ends_short g.P.Pool c.args.session c.args.log.now.steps.items c.args.log.now.messages.items (λ units. inl (refl, refl))

pub try_copy-requires-clause-there : goal.try_copy-requires-clause-there
try_copy-requires-clause-there g c = is_there c.requires.may (known_units g.P.Pool c.args.session c.stands.ensures.kept c.stands.ensures.models)
