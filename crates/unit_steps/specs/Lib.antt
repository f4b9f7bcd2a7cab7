pub use Rattle.unit_change.specs.render_laws as render_laws
pub use Rattle.unit_change.specs as unit_change
pub use Rattle.unit_change.specs.vtoc_render as vtoc_render
pub mod Loaded
pub mod Plans
pub mod Rendering
pub mod Copied
pub mod Laws
pub mod Parts
