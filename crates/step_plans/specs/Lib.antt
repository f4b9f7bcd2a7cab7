pub use Rattle.unit_steps.specs.render_laws as render_laws
pub use Rattle.unit_steps.specs.unit_change as unit_change
pub use Rattle.unit_steps.specs as unit_steps
pub use Rattle.unit_steps.specs.vtoc_render as vtoc_render
pub mod Plans
pub mod Copies
pub mod Parts
