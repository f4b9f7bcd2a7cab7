pub use Rattle.vtoc_render.specs.render_laws as render_laws
pub use Rattle.vtoc_render.specs as vtoc_render
pub mod Described
pub mod Changed
