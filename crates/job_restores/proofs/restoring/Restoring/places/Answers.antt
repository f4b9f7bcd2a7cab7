use Rattle.std.proofs.Common.{inl, inr, sym, subst, ◌∙◌}
use Rattle.free_map.specs.Several.{IsChoiceFault}
use Rattle.job_turns.proofs.job_copies.FreePlaces.{free_heads}
use Rattle.job_restores.proofs.FreePlaces.{places_for, no_places}
use Rattle.job_restores.proofs.restoring.Restoring.places.Goals as goal

pub several-requires : goal.several-requires
several-requires c = record {
  step = elim c.step.ensures [
    | inl by ↦ inr (by.1 ∙ sym (free_heads c.args.self.now.target.now c.requires.may.sound))
    | inr by ↦ inl by.1
  ];
}

pub returns-in-Ok-clause-chosen : goal.returns-in-Ok-clause-chosen
returns-in-Ok-clause-chosen c case are = places_for c.args.self.now c.step.result c.step.ensures case are c.in-Ok.runs c.in-Ok.ensures.chosen

pub returns-in-Err-NoRun-clause-none : goal.returns-in-Err-NoRun-clause-none
returns-in-Err-NoRun-clause-none c case are =
    no_places c.args.self.now c.step.result c.step.ensures case are c.in-Err-NoRun.field-0-0
    (subst (IsChoiceFault c.args.self.now.target.now.free.runs c.args.self.now.part.now.tracks c.step.result) c.in-Err-NoRun.field-0-is c.in-Err-NoRun.ensures.refused)
