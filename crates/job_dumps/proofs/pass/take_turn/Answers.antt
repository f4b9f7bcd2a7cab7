use Rattle.std.proofs.Common.{◌≡◌, ◌∷◌, [], Some, None, refl, sym, subst, ◌∙◌, arith}
use Rattle.std.specs.Prelude.{slice_get}
use Rattle.std.proofs.lemmas.Bool.{iff_false, false≢true}
use Rattle.std.proofs.lemmas.List.Elements.{All-nil, All-cons}
use Rattle.volume_model.specs.Unit.{OnlineVolume, online}
use Rattle.job_dumps.proofs.Looks.{looks_itself}
use Rattle.job_lines.specs.declared.message.Reason.{Reason}
use Rattle.job_turns.specs.job_steps.Units.{facts_of, ForUnits}
use Rattle.job_dumps.specs.Dumped.{DumpsSet}
use Rattle.job_dumps.specs.Passing.{request_in}
use Rattle.job_dumps.specs.Reasons.{LacksRoomToChange}
use Rattle.job_dumps.specs.Texts.{IsOfRow}
use Rattle.job_dumps.proofs.Judged.{known_units, set_there}
use Rattle.job_dumps.proofs.Turned.{refused_turn, full_turn, full_bad_turn, whole_turn, dropped_turn, under_way, room_unasked, put_none, on_err}
use Rattle.job_dumps.proofs.pass.take_turn.Goals.{then-good, else-good, else-scene-via-then-scene+else-changes, else-scene-via-else-scene}
use Rattle.job_dumps.proofs.pass.take_turn.Goals as goal

pub returns-in-Err-clause-looks : goal.returns-in-Err-clause-looks
returns-in-Err-clause-looks g c = looks_itself g.P.Pool c.args.session.now

pub returns-in-Err-clause-put : goal.returns-in-Err-clause-put
returns-in-Err-clause-put g c =
    let known = known_units g.P.Pool c.args.session.now c.stands.ensures.kept c.stands.ensures.models in
    let at = c.requires.may.0 in
    record {
      at = at;
      parts = [];
      one = omega arith;
      of_row = All-nil (IsOfRow at.volume at.row);
      dumped =
          λ told units settled.
          refused_turn {request = request_in c.args.scene} (set_there known at.loaded at.row_is told units settled) c.in-Err.reason (c.in-Err.ensures.refused told units settled);
      put = put_none;
    }

pub returns-in_err-good-clause-left : goal.returns-in_err-good-clause-left
returns-in_err-good-clause-left g c =
    on_err c.from_residual.result (record { at = c.requires.may.0; current = None; under_way = λ told units settled. tt {0}; put = put_none })

pub returns-then-changes-clause-put : goal.returns-then-changes-clause-put
returns-then-changes-clause-put g c =
    let known = known_units g.P.Pool c.args.session.now c.stands.ensures.kept c.stands.ensures.models in
    let at = c.requires.may.0 in
    record {
      at = at;
      parts = [];
      one = omega arith;
      of_row = All-nil (IsOfRow at.volume at.row);
      dumped =
          λ told units settled.
          let set = set_there known at.loaded at.row_is told units settled in
          let goes = c.in_default.ensures.goes told units settled in
          let changes = sym c.changes.ensures ∙ c.if-changes.true in
          let lacks : LacksRoomToChange c.args.scene.wish set.0 = (changes, (c.requires.full changes told units settled set.0 set.2.online_is).0 c.if-scene.true) in
          let texts = c.in_ok-good.ensures.texts told (facts_of g.P.Pool c.args.session.now) units set.0 set.1 refl settled set.2.online_is set.2.there set.2.name_is in
          elim c.if-good.branch [
            | then-good w ↦
                subst (λ (reason : Reason). DumpsSet (request_in c.args.scene) c.args.name.now units (Some reason) []) (sym w.result-is)
                (full_turn {request = request_in c.args.scene} set goes lacks (texts.0 w.if-good.true))
            | else-good w ↦
                subst (λ (reason : Reason). DumpsSet (request_in c.args.scene) c.args.name.now units (Some reason) []) (sym w.result-is)
                (full_bad_turn {request = request_in c.args.scene} set goes lacks (iff_false texts w.if-good.false))
          ];
      put = put_none;
    }

pub returns-in_err-whole-clause-left : goal.returns-in_err-whole-clause-left
returns-in_err-whole-clause-left g c =
    let known = known_units g.P.Pool c.args.session.now c.stands.ensures.kept c.stands.ensures.models in
    let left = c.in_err-whole.ensures.left in
    let room : ForUnits g.P.Pool c.args.session.now
    (λ units. (volume : OnlineVolume) → slice_get units c.args.scene.unit ≡ Some (online volume) → ¬ LacksRoomToChange c.args.scene.wish volume) =
    λ told units settled volume is.
    elim c.else-scene.branch [
      | else-scene-via-then-scene+else-changes w ↦ room_unasked c.args.scene.wish w.changes.ensures w.if-changes.false volume
      | else-scene-via-else-scene w ↦ λ lacks. iff_false (c.requires.full lacks.0 told units settled volume is) w.if-scene.false lacks.1
    ] in
    on_err c.from_residual-in_err-whole.result (record {
      at = left.at;
      current = left.current;
      under_way = under_way g.P.Pool c.args.session.now (request_in c.args.scene) left.current left.of_set (set_there known left.at.loaded left.at.row_is) c.in_default.ensures.goes room;
      put = left.put;
    })

pub returns-then-whole-clause-put : goal.returns-then-whole-clause-put
returns-then-whole-clause-put g c =
    let known = known_units g.P.Pool c.args.session.now c.stands.ensures.kept c.stands.ensures.models in
    let put = c.in_ok-whole.ensures.put in
    let room : ForUnits g.P.Pool c.args.session.now
    (λ units. (volume : OnlineVolume) → slice_get units c.args.scene.unit ≡ Some (online volume) → ¬ LacksRoomToChange c.args.scene.wish volume) =
    λ told units settled volume is.
    elim c.else-scene.branch [
      | else-scene-via-then-scene+else-changes w ↦ room_unasked c.args.scene.wish w.changes.ensures w.if-changes.false volume
      | else-scene-via-else-scene w ↦ λ lacks. iff_false (c.requires.full lacks.0 told units settled volume is) w.if-scene.false lacks.1
    ] in
    record {
      at = put.at;
      parts = put.part ∷ [];
      one = omega arith;
      of_row = All-cons (IsOfRow put.at.volume put.at.row) put.part [] put.of_row (All-nil (IsOfRow put.at.volume put.at.row));
      dumped =
          λ told units settled.
          let set = set_there known put.at.loaded put.at.row_is told units settled in
          whole_turn {request = request_in c.args.scene} set (c.in_default.ensures.goes told units settled) (room told units settled set.0 set.2.online_is) put.part
          (put.of_set told units settled set.0 set.1 set.2) (put.whole_is ∙ c.if-whole.true);
      put = put.put;
    }

pub returns-else-whole-clause-put : goal.returns-else-whole-clause-put
returns-else-whole-clause-put g c =
    let known = known_units g.P.Pool c.args.session.now c.stands.ensures.kept c.stands.ensures.models in
    let put = c.in_ok-whole.ensures.put in
    let room : ForUnits g.P.Pool c.args.session.now
    (λ units. (volume : OnlineVolume) → slice_get units c.args.scene.unit ≡ Some (online volume) → ¬ LacksRoomToChange c.args.scene.wish volume) =
    λ told units settled volume is.
    elim c.else-scene.branch [
      | else-scene-via-then-scene+else-changes w ↦ room_unasked c.args.scene.wish w.changes.ensures w.if-changes.false volume
      | else-scene-via-else-scene w ↦ λ lacks. iff_false (c.requires.full lacks.0 told units settled volume is) w.if-scene.false lacks.1
    ] in
    record {
      at = put.at;
      parts = put.part ∷ [];
      one = omega arith;
      of_row = All-cons (IsOfRow put.at.volume put.at.row) put.part [] put.of_row (All-nil (IsOfRow put.at.volume put.at.row));
      dumped =
          λ told units settled.
          let set = set_there known put.at.loaded put.at.row_is told units settled in
          dropped_turn {request = request_in c.args.scene} set (c.in_default.ensures.goes told units settled) (room told units settled set.0 set.2.online_is) put.part
          (put.of_set told units settled set.0 set.1 set.2) (put.whole_is ∙ c.if-whole.false);
      put = put.put;
    }

pub returns-then-whole-clause-may : goal.returns-then-whole-clause-may
returns-then-whole-clause-may g c = λ none. record {
  few = c.in_default.ensures.few;
  room = λ changes. elim c.else-scene.branch [
    | else-scene-via-then-scene+else-changes w ↦ absurd (false≢true (sym w.if-changes.false ∙ w.changes.ensures ∙ changes))
    | else-scene-via-else-scene w ↦ w.if-scene.false
  ];
}
