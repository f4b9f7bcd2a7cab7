use Rattle.std.proofs.Common.{◌≤◌, length, All, subst}
use Rattle.std.proofs.lemmas.Result.{IfOk-weaker, IfErr-weaker}
use Rattle.ckd_image.specs.Device.{heads_of}
use Rattle.volume_model.specs.Unit.{DataSet, OnlineVolume}
use Rattle.volume_change.proofs.Names.{one_text}
use Rattle.vtoc_core.specs.declared.volume.Row.{Row}
use Rattle.vtoc_core.specs.declared.volume.Volume.{Volume}
use Rattle.job_turns.specs.job_copies.unit_steps.Plans.{HasRow}
use Rattle.job_turns.proofs.job_copies.step_room.SoundRows.{one_row}
use Rattle.job_turns.proofs.job_copies.unit_steps.OneChange.{same_volume}
use Rattle.job_turns.specs.job_copies.unit_change.Described.{Describes, DescribesSet}
use Rattle.job_lines.specs.Order.{IsFirst}
use Rattle.job_turns.specs.job_steps.Units.{ForUnits}
use Rattle.job_dumps.specs.Passing.{GoesSoFar, IsRefusedSoFar, request_in}
use Rattle.job_dumps.specs.Reasons.{PreventsAtFirst, first_reasons}
use Rattle.job_dumps.proofs.Judged.{known_units, described}
use Rattle.job_dumps.proofs.pass.judge.Goals as goal

pub row_of-requires-clause-sound : goal.row_of-requires-clause-sound
row_of-requires-clause-sound g c =
    (known_units g.P.Pool c.args.session.now c.stands.ensures.kept c.stands.ensures.models).sound c.args.scene.unit c.volume-volume.result.now c.volume-volume.ensures

pub returns-clause-goes : goal.returns-clause-goes
returns-clause-goes g c =
    let known = known_units g.P.Pool c.args.session.now c.stands.ensures.kept c.stands.ensures.models in
    let loaded = c.volume-volume.result.now in
    let Bars = λ (volume : OnlineVolume) (set : DataSet). PreventsAtFirst c.args.scene.held.now c.args.scene.today c.args.scene.wish volume c.args.name.now set in
    IfOk-weaker c.judge.result (λ none. (volume : OnlineVolume) (set : DataSet) → Describes loaded volume → DescribesSet (heads_of loaded.device) c.in-Some.row.now set
    → All (λ reason. ¬ Bars volume set reason) first_reasons)
    (λ none. ForUnits g.P.Pool c.args.session.now (GoesSoFar (request_in c.args.scene) c.args.name.now))
    (λ none says told units settled volume set is. let are = described known c.volume-volume.ensures c.in-Some.ensures.found told units settled volume set is in says volume set are.0 are.1)
    c.judge.ensures.goes

pub returns-clause-refused : goal.returns-clause-refused
returns-clause-refused g c =
    let known = known_units g.P.Pool c.args.session.now c.stands.ensures.kept c.stands.ensures.models in
    let loaded = c.volume-volume.result.now in
    let Bars = λ (volume : OnlineVolume) (set : DataSet). PreventsAtFirst c.args.scene.held.now c.args.scene.today c.args.scene.wish volume c.args.name.now set in
    IfErr-weaker c.judge.result (λ reason. (volume : OnlineVolume) (set : DataSet) → Describes loaded volume → DescribesSet (heads_of loaded.device) c.in-Some.row.now set
    → IsFirst (Bars volume set) first_reasons reason)
    (λ reason. ForUnits g.P.Pool c.args.session.now (IsRefusedSoFar (request_in c.args.scene) c.args.name.now reason))
    (λ reason says told units settled volume set is. let are = described known c.volume-volume.ensures c.in-Some.ensures.found told units settled volume set is in says volume set are.0 are.1)
    c.judge.ensures.refused

pub returns-clause-few : goal.returns-clause-few
returns-clause-few g c =
    let known = known_units g.P.Pool c.args.session.now c.stands.ensures.kept c.stands.ensures.models in
    let loaded = c.volume-volume.result.now in
    let unit = c.args.scene.unit in
    IfOk-weaker c.judge.result (λ none. length c.in-Some.row.now.extents ≤ 16) _
    (λ none few volume row at has.
    let same = same_volume c.args.session.now.units unit volume loaded at c.volume-volume.ensures in
    let there : HasRow loaded c.args.name.now row = subst (λ (v : Volume). HasRow v c.args.name.now row) same has in
    subst (λ (r : Row). length r.extents ≤ 16) (one_row loaded (known.sound unit loaded c.volume-volume.ensures) c.in-Some.row.now row c.in-Some.ensures.found.there there.there
    (one_text c.args.name.now c.in-Some.row.now.name row.name c.in-Some.ensures.found.name_is there.name_is)) few)
    c.judge.ensures.few
