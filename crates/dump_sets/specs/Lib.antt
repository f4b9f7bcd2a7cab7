pub use Rattle.job_dumps.specs as job_dumps
pub use Rattle.job_dumps.specs.job_turns as job_turns
pub use Rattle.job_outputs.specs as job_outputs
pub mod Changing
pub mod Telling
pub mod Writing
pub mod Dump
pub mod Going
