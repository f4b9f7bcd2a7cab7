-- Plans from a place on.
use Rattle.std.proofs.Common.{◌≡◌, ℕ, zero, suc, ◌+◌, ◌-◌, ◌<◌, ◌≤◌, List, [], ◌∷◌, length, drop, get_or, refl, sym, ap, ◌∙◌, arith}
use Rattle.std.proofs.lemmas.List.{drop_all, drop_more}
use Rattle.sysin_lang.specs.declared.script.Step.{Step}
use Rattle.sysin_lang.specs.declared.script.Step.TheVariants as steps
use Rattle.sysin_lang.specs.Flow.{Plan, Done}
use Rattle.sysin_lang.specs.Script.{first_plan, later_plans, plans_at, plans_of, ends_behind}

later_at : (plans : List Plan) (n : ℕ) → get_or (later_plans plans) n Done ≡ get_or plans (suc n) Done
later_at [] n = refl
later_at (plan ∷ plans) n = refl

at_same : (plans : List Plan) (m n : ℕ) → m ≡ n → get_or plans m Done ≡ get_or plans n Done
at_same plans m n e = ap (λ (k : ℕ). get_or plans k Done) e

-- what may run from behind a bracket, on this side of a step and on the other
pub behind_step : (step : Step) (plans : List Plan) (ends : ℕ) → 0 < ends → get_or (plans_at step plans) ends Done ≡ get_or plans (ends_behind step ends) Done
behind_step step plans zero lt = absurd (omega arith)
behind_step (steps.Run statement) plans (suc n) lt = later_at plans n
behind_step (steps.Set which code) plans (suc n) lt = later_at plans n
behind_step (steps.If which op code) plans (suc n) lt =
    later_at (later_plans (later_plans plans)) n ∙ later_at (later_plans plans) (suc n) ∙ later_at plans (suc (suc n)) ∙ at_same plans (suc (suc (suc n))) (suc n + 2) (omega arith)
behind_step steps.Else plans (suc n) lt = at_same plans n (suc n - 1) (omega arith)
behind_step steps.End plans (suc n) lt = at_same plans n (suc n - 1) (omega arith)

first_at : (plans : List Plan) → get_or plans 0 Done ≡ first_plan plans
first_at [] = refl
first_at (plan ∷ plans) = refl

pub at_end : (list : List Step) (place ends : ℕ) → length list ≤ place → get_or (plans_of (drop place list)) ends Done ≡ Done
at_end list place ends le = ap (λ (l : List Step). get_or (plans_of l) ends Done) (drop_all place list le)

pub few_ends : (step : Step) (ends : ℕ) → ends_behind step ends ≤ ends + 2
few_ends (steps.Run statement) ends = omega arith
few_ends (steps.Set which code) ends = omega arith
few_ends (steps.If which op code) ends = omega arith
few_ends steps.Else ends = omega arith
few_ends steps.End ends = omega arith

-- a step that stands at a place
pub step_at : (list : List Step) (place : ℕ) (step : Step) → place < length list → step ≡ get_or list place step → drop place list ≡ step ∷ drop (place + 1) list
step_at list place step lt is = drop_more list place step lt ∙ ap (λ (s : Step). s ∷ drop (place + 1) list) (sym is)

-- one more step is passed
pub one_behind : (list : List Step) (place ends : ℕ) (step : Step) (target : Plan) → 0 < ends → place < length list → step ≡ get_or list place step → get_or (plans_of (drop place list)) ends Done ≡ target
    → get_or (plans_of (drop (place + 1) list)) (ends_behind step ends) Done ≡ target
one_behind list place ends step target some lt is goal =
    sym (behind_step step (plans_of (drop (place + 1) list)) ends some) ∙ sym (ap (λ (l : List Step). get_or (plans_of l) ends Done) (step_at list place step lt is)) ∙ goal
