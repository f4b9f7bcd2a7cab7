pub use Rattle.unit_steps.specs as unit_steps
pub use Rattle.unit_steps.specs.vtoc_render as vtoc_render
pub mod Sessions
pub mod Copies
pub mod Given
pub mod Planned
pub mod Texts
