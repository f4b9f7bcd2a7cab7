use Rattle.std.proofs.Common.{List, true, get_or, drop, reverse, sym, subst}
use Rattle.std.specs.List.{AllZip}
use Rattle.sysin_lang.specs.declared.script.Step.{Step}
use Rattle.sysin_lang.specs.Flow.{Plan}
use Rattle.sysin_lang.specs.Script.{first_plan, later_plans, plans_at}
use Rattle.job_ops.specs.Meaning.{IsBuilt}
use Rattle.job_script.specs.Built.{AreBuilt}
use Rattle.job_script.specs.Backward.{TellPlans}
use Rattle.job_script.proofs.Stacks.{Tells, tells_first, tells_second, tells_later, pushed, both_then, both_else, swapped}
use Rattle.job_script.proofs.built.step_back.Goals as goal
use Rattle.job_script.proofs.built.step_back.Goals.{in-Run+then-take, in-Run+else-take, in-Set, in-If+then-first, in-If+else-first, in-Else, in-End}

pub returns : goal.returns
returns c = λ plans h.
    let stack = reverse c.args.answers.now.items in
    let P : Step → Type 0 = λ step. TellPlans c.push.new.self.items (plans_at step plans) in
    let first : Tells (get_or stack 0 true) (first_plan plans) = tells_first stack plans h in
    let one : AllZip Tells (drop 1 stack) (later_plans plans) = tells_later stack plans h in
    let two : AllZip Tells (drop 1 (drop 1 stack)) (later_plans (later_plans plans)) = tells_later (drop 1 stack) (later_plans plans) one in
    let three : AllZip Tells (drop 1 (drop 1 (drop 1 stack))) (later_plans (later_plans (later_plans plans))) = tells_later (drop 1 (drop 1 stack)) (later_plans (later_plans plans)) two in
    let second : Tells (get_or (drop 1 stack) 0 true) (first_plan (later_plans plans)) = tells_first (drop 1 stack) (later_plans plans) one in
    let push = λ (plan : Plan) (left : List Plan) (tells : Tells c.match-step.answer plan) (others : AllZip Tells (reverse c.match-step.answers.items) left).
    pushed c.match-step.answers.items c.push.new.self.items c.match-step.answer plan left c.in_ok-push.ensures.items tells others
    in
    elim c.match-step.branch [
      | in-Run+then-take w ↦
          subst P (sym w.in-Run.is) (push _ _
          (rw w.answer-is (swapped w.is_built.result (AreBuilt (first_plan plans)) (IsBuilt w.in-Run.statement.command)
          (both_then w.take.result w.is_built.result (AreBuilt (first_plan plans)) (IsBuilt w.in-Run.statement.command) w.if-take.true (rw w.take.ensures.answer first) w.is_built.ensures)))
          (rw (w.answers-is, w.take.ensures.others) one))
      | in-Run+else-take w ↦
          subst P (sym w.in-Run.is) (push _ _
          (rw w.answer-is (swapped w.take.result (AreBuilt (first_plan plans)) (IsBuilt w.in-Run.statement.command)
          (both_else w.take.result (AreBuilt (first_plan plans)) (IsBuilt w.in-Run.statement.command) w.if-take.false (rw w.take.ensures.answer first))))
          (rw (w.answers-is, w.take.ensures.others) one))
      | in-Set w ↦ subst P (sym w.in-Set.is) (push _ _ (rw (w.answer-is, w.take-answer.ensures.answer) first) (rw (w.answers-is, w.take-answer.ensures.others) one))
      | in-If+then-first w ↦ subst P (sym w.in-If.is) (push _ _
          (rw w.answer-is (both_then w.take-first.result w.take-second.result (AreBuilt (first_plan plans)) (AreBuilt (first_plan (later_plans plans))) w.if-first.true
          (rw w.take-first.ensures.answer first) (rw (w.take-second.ensures.answer, w.take-first.ensures.others) second)))
          (rw (w.answers-is, w.take-behind.ensures.others, w.take-second.ensures.others, w.take-first.ensures.others) three))
      | in-If+else-first w ↦ subst P (sym w.in-If.is) (push _ _
          (rw w.answer-is (both_else w.take-first.result (AreBuilt (first_plan plans)) (AreBuilt (first_plan (later_plans plans))) w.if-first.false (rw w.take-first.ensures.answer first)))
          (rw (w.answers-is, w.take-behind.ensures.others, w.take-second.ensures.others, w.take-first.ensures.others) three))
      | in-Else w ↦ subst P (sym w.in-Else.is) (push _ _ (rw (w.answer-is, w.last-answer.ensures, w.deref.ensures.value) (tells_second stack plans h)) (rw w.answers-is h))
      | in-End w ↦ subst P (sym w.in-End.is) (push _ _ (rw (w.answer-is, w.last-answer-in-End.ensures, w.deref-in-End.ensures.value) first) (rw w.answers-is h))
    ]
