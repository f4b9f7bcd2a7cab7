pub use Rattle.job_turns.specs as job_turns
pub mod Reasons
pub mod Parts
pub mod Putting
pub mod Texts
pub mod Dumped
pub mod Passing
