-- Statements that ran, and more behind them.
use Rattle.std.proofs.Common.{◌≡◌, ℕ, List, [], ◌∷◌, ◌++◌, refl, sym, ap, subst, ◌∙◌}
use Rattle.std.proofs.lemmas.List.{map-append, append-nil}
use Rattle.std.proofs.lemmas.Grind.{flat_map-append}
use Rattle.volume_model.specs.Unit.{UnitModel}
use Rattle.sysin_lang.specs.declared.command.Statement.{Statement}
use Rattle.sysin_lang.specs.Flow.{Codes, Plan, Command, next_of, answered, Leaves}
use Rattle.job_ops.specs.job_turns.Setting.{Setting}
use Rattle.dump_fmt.specs.Outs.{Files}
use Rattle.job_script.specs.Runs.{Ran, steps_of, lines_of, lines_in, answers_of, Follow, HandOn}

pub steps_join : (ran more : List Ran) → steps_of (ran ++ more) ≡ steps_of ran ++ steps_of more
steps_join ran more = flat_map-append (λ (one : Ran). one.steps) ran more

pub lines_join : (ran more : List Ran) → lines_of (ran ++ more) ≡ lines_of ran ++ lines_of more
lines_join ran more = flat_map-append (λ (one : Ran). lines_in one.statement.number one.report.messages) ran more

pub steps_one : (one : Ran) → steps_of (one ∷ []) ≡ one.steps
steps_one one = append-nil one.steps

pub lines_one : (one : Ran) → lines_of (one ∷ []) ≡ lines_in one.statement.number one.report.messages
lines_one one = append-nil (lines_in one.statement.number one.report.messages)

pub follow_join : (setting : Setting) (ran more : List Ran) (units between after : List UnitModel) → Follow setting ran units between → Follow setting more between after
    → Follow setting (ran ++ more) units after
follow_join setting [] more units between after first second = subst (λ (u : List UnitModel). Follow setting more u after) first second
follow_join setting (one ∷ ran) more units between after first second =
    (first.0, (first.1.0, first.1.1, follow_join setting ran more first.1.0 between after first.1.2 second))

pub hand_join : (ran more : List Ran) (first between last : Files) → HandOn first ran between → HandOn between more last → HandOn first (ran ++ more) last
hand_join [] more first between last same second = subst (λ (f : Files). HandOn f more last) same second
hand_join (one ∷ ran) more first between last handed second = (handed.0, handed.1, hand_join ran more one.files.after between last handed.2 second)

pub leaves_join : (plan : Plan) (codes : Codes) (ran more : List (Statement × ℕ)) (between : Plan) (then' : Codes) (left : Plan) (after : Codes) → Leaves plan codes ran between then'
    → Leaves between then' more left after → Leaves plan codes (ran ++ more) left after
leaves_join plan codes [] more between then' left after first second =
    subst (λ (c : Codes). Leaves plan c more left after) first.1 (subst (λ (p : Plan). Leaves p then' more left after) first.0 second)
leaves_join plan codes (one ∷ ran) more between then' left after first second =
    (first.0, first.1, first.2, leaves_join first.0 (answered one.1 first.1) ran more between then' left after first.3 second)

-- one more statement ran
pub leaves_more : (plan left rest : Plan) (codes then' start : Codes) (statement : Statement) (ran : List Ran) (one : Ran) → Leaves plan start (answers_of ran) left codes
    → one.statement ≡ statement → next_of left codes ≡ Command statement rest then'
    → Leaves plan start (answers_of (ran ++ (one ∷ []))) rest (answered one.report.code then')
leaves_more plan left rest codes then' start statement ran one leaves same next =
    subst (λ (l : List (Statement × ℕ)). Leaves plan start l rest (answered one.report.code then')) (sym (map-append (λ (r : Ran). (r.statement, r.report.code)) ran (one ∷ [])))
    (leaves_join plan start (answers_of ran) ((one.statement, one.report.code) ∷ []) left codes rest (answered one.report.code then') leaves
    (rest, then', next ∙ ap (λ (s : Statement). Command s rest then') (sym same), (refl, refl)))
