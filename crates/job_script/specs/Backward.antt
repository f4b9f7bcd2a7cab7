-- Answers about plans, as a stack has them.
use Rattle.std.specs.Prelude.{◌↔◌, IsTrue, Bool, List, reverse}
use Rattle.std.specs.List.{AllZip}
use Rattle.sysin_lang.specs.Flow.{Plan}
use Rattle.job_script.specs.Built.{AreBuilt}

-- for each plan whether its commands are all built, the first plan's answer last
abbrev pub TellPlans : List Bool → List Plan → Type 0
TellPlans answers plans = AllZip (λ answer plan. IsTrue answer ↔ AreBuilt plan) (reverse answers) plans
