pub use Rattle.render_laws.specs as render_laws
pub mod Loads
pub mod Next
pub mod Render
pub mod Steps
pub mod Written
pub mod Change
