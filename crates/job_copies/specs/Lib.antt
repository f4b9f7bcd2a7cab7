pub use Rattle.job_select.specs as job_select
pub use Rattle.step_room.specs.step_plans as step_plans
pub use Rattle.step_room.specs as step_room
pub use Rattle.step_room.specs.unit_change as unit_change
pub use Rattle.step_room.specs.unit_steps as unit_steps
pub use Rattle.step_room.specs.vtoc_render as vtoc_render
pub mod Case
pub mod Loaded
pub mod Places
pub mod Reasons
pub mod Rows
