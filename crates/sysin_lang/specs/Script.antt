-- What may run of a script.
use Rattle.std.specs.Prelude.{◌≡◌, ℕ, ◌+◌, ◌-◌, List, [], ◌∷◌, drop, Option, Some, None}
use Rattle.std.specs.Option.{option_copied}
use Rattle.std.specs.Borrow.{Bor}
use Rattle.sysin_lang.specs.declared.command.Statement.{Statement}
use Rattle.sysin_lang.specs.declared.script.Step.{Step}
use Rattle.sysin_lang.specs.declared.script.Step.TheVariants as steps
use Rattle.sysin_lang.specs.declared.script.Script.{Script}
use Rattle.sysin_lang.specs.declared.flow.Flow.{Flow}
use Rattle.sysin_lang.specs.Flow.{Codes, Plan, Done, Run, Set, Choose, Next, Command, End}

-- the first of several plans, and the others
abbrev pub first_plan : List Plan → Plan
first_plan [] = Done
first_plan (plan ∷ plans) = plan

abbrev pub later_plans : List Plan → List Plan
later_plans [] = []
later_plans (plan ∷ plans) = plans

-- what may run from a step on, and then from behind each bracket that ends what it stands in; handed in is the same of the step behind it
abbrev pub plans_at : Step → List Plan → List Plan
plans_at (steps.Run statement) plans = Run statement (first_plan plans) ∷ later_plans plans
plans_at (steps.Set which code) plans = Set which code (first_plan plans) ∷ later_plans plans
plans_at (steps.If which op code) plans = Choose which op code (first_plan plans) (first_plan (later_plans plans)) ∷ later_plans (later_plans (later_plans plans))
plans_at steps.Else plans = first_plan (later_plans plans) ∷ plans
plans_at steps.End plans = first_plan plans ∷ plans

abbrev pub plans_of : List Step → List Plan
plans_of [] = []
plans_of (step ∷ more) = plans_at step (plans_of more)

abbrev pub plan_of : List Step → Plan
plan_of list = first_plan (plans_of list)

-- what may run of a script
abbrev pub plan_of_script : Script → Plan
plan_of_script script = plan_of script.steps

-- what may run of it yet
abbrev pub left_of : Script → Flow → Plan
left_of script flow = plan_of (drop flow.place script.steps)

-- the codes of a flow
abbrev pub codes_of : Flow → Codes
codes_of flow = record { lastcc = flow.lastcc; maxcc = flow.maxcc }

-- the next command is given, with what may run behind it and the codes as they are then; or there is none
abbrev pub Gives : Next → Option (Bor Statement) → Plan → Codes → Type 0
Gives (Command statement left codes) given plan after = (option_copied given ≡ Some statement) × (plan ≡ left) × (after ≡ codes)
Gives (End codes) given plan after = (given ≡ None) × (plan ≡ Done) × (after ≡ codes)

abbrev pub IsNoCommand : Step → Type 0
IsNoCommand (steps.Run statement) = ⊥
IsNoCommand _ = Unit {0}

-- how many brackets end what stands behind a step, where so many end what stands from it on
abbrev pub ends_behind : Step → ℕ → ℕ
ends_behind (steps.If which op code) ends = ends + 2
ends_behind steps.Else ends = ends - 1
ends_behind steps.End ends = ends - 1
ends_behind _ ends = ends
