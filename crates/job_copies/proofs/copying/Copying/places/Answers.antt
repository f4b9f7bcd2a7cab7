use Rattle.std.proofs.Common.{inl, inr, sym, subst, ◌∙◌}
use Rattle.free_map.specs.Several.{IsChoiceFault}
use Rattle.job_copies.proofs.FreePlaces.{free_heads, places_on, places_for, no_places}
use Rattle.job_copies.proofs.copying.Copying.places.Goals as goal

pub several-requires : goal.several-requires
several-requires c = record {
  step = elim c.step_for.ensures [
    | inl by ↦ inr (by.1 ∙ sym (free_heads c.args.self.now.target.now c.requires.may.target_sound))
    | inr by ↦ inl by.1
  ];
}

pub returns-in-Ok-clause-free : goal.returns-in-Ok-clause-free
returns-in-Ok-clause-free c =
    places_on c.args.self.now c.requires.may c.row-row.result.now c.row-row.ensures c.track_count-need.result c.step_for.result c.track_count-need.ensures.count c.step_for.ensures
    c.in-Ok.runs c.in-Ok.ensures.places

pub returns-in-Ok-clause-chosen : goal.returns-in-Ok-clause-chosen
returns-in-Ok-clause-chosen c case are =
    places_for c.args.self.now c.requires.may c.row-row.result.now c.row-row.ensures c.track_count-need.result c.step_for.result c.track_count-need.ensures.count c.step_for.ensures
    case are c.in-Ok.runs c.in-Ok.ensures.chosen

pub returns-in-Err-NoRun-clause-none : goal.returns-in-Err-NoRun-clause-none
returns-in-Err-NoRun-clause-none c case are =
    no_places c.args.self.now c.requires.may c.row-row.result.now c.row-row.ensures c.track_count-need.result c.step_for.result c.track_count-need.ensures.count c.step_for.ensures
    case are c.in-Err-NoRun.field-0-0
    (subst (IsChoiceFault c.args.self.now.target.now.free.runs c.track_count-need.result c.step_for.result) c.in-Err-NoRun.field-0-is c.in-Err-NoRun.ensures.refused)
