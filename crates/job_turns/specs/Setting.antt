-- What a statement is judged by beside the volumes.
use Rattle.std.specs.Prelude.{List}
use Rattle.by_rules.specs.declared.day.Day.{Day}
use Rattle.dasd_pool.specs.declared.pool.Pool.{Ghosts}
use Rattle.enq_table.specs.declared.hold.Hold.{Hold}
use Rattle.move_core.specs.Facts.{Facts, Inputs, no_inputs}
use Rattle.job_acts.specs.job_steps.unit_session.Sessions.{SessionView}
use Rattle.job_acts.specs.job_steps.Units.{facts_for}

-- what never changes of the pool, the day, and the table of holds
pub record Setting : Type 0 where
  pub facts : Facts
  pub today : Day
  pub held : List Hold

-- for a session's pool, where the inputs hold this
abbrev pub setting_for : {P : Type 0} → Ghosts P → SessionView P → Inputs → List Hold → Day → Setting
setting_for pools session inputs held today = record { facts = facts_for pools session inputs; today = today; held = held }

-- and where they hold nothing: what calls no input is judged so
abbrev pub setting_of : {P : Type 0} → Ghosts P → SessionView P → List Hold → Day → Setting
setting_of pools session held today = setting_for pools session no_inputs held today

abbrev pub without_inputs : Setting → Setting
without_inputs setting = record setting { facts = record setting.facts { inputs = no_inputs } }
