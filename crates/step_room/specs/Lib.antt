pub use Rattle.step_plans.specs as step_plans
pub use Rattle.step_plans.specs.unit_change as unit_change
pub use Rattle.step_plans.specs.unit_steps as unit_steps
pub use Rattle.step_plans.specs.vtoc_render as vtoc_render
pub mod Room
