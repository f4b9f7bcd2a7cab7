pub use Rattle.unit_session.specs as unit_session
pub mod Carried
pub mod Giving
pub mod Units
