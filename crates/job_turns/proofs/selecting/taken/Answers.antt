use Rattle.std.proofs.Common.{All, subst}
use Rattle.std.proofs.lemmas.Result.{IfOk-weaker}
use Rattle.vtoc_core.specs.declared.volume.Row.{Row}
use Rattle.vtoc_core.specs.declared.volume.Volume.{Volume}
use Rattle.job_copies.specs.unit_steps.Plans.{HasRow}
use Rattle.job_copies.specs.job_select.Selection.{ArePicked}
use Rattle.job_acts.proofs.job_steps.unit_session.unit_steps.OneChange.{same_volume}
use Rattle.job_turns.proofs.LoadedUnits.{known_units}
use Rattle.job_turns.proofs.selecting.taken.Goals as goal

pub select-requires-clause-sound : goal.select-requires-clause-sound
select-requires-clause-sound g c = (known_units g.P.Pool c.args.session.now c.stands.ensures.kept c.stands.ensures.models).sound c.args.unit c.volume.result.now c.volume.ensures

pub returns-clause-taken : goal.returns-clause-taken
returns-clause-taken g c =
    let known = known_units g.P.Pool c.args.session.now c.stands.ensures.kept c.stands.ensures.models in
    IfOk-weaker c.select.result _ _
    (λ names selects told units settled volume at. selects volume (known.described told units settled c.args.unit c.volume.result.now volume c.volume.ensures at)) c.select.ensures.selected

pub returns-clause-there : goal.returns-clause-there
returns-clause-there g c =
    IfOk-weaker c.select.result _ _
    (λ names there volume loaded.
    subst (λ (v : Volume). All (λ name. (row : Row) × HasRow v name row) names.items)
    (same_volume c.args.session.now.units c.args.unit c.volume.result.now volume c.volume.ensures loaded) there)
    c.select.ensures.there

pub returns-clause-picked : goal.returns-clause-picked
returns-clause-picked g c =
    IfOk-weaker c.select.result _ _
    (λ names picked volume loaded.
    subst (λ (v : Volume). ArePicked v v.rows names.items) (same_volume c.args.session.now.units c.args.unit c.volume.result.now volume c.volume.ensures loaded) picked)
    c.select.ensures.rows
