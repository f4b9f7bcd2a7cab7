pub use Rattle.job_ops.specs.unit_session as unit_session
pub mod Built
pub mod Backward
pub mod Runs
pub mod Ends
pub mod One
