pub use Rattle.job_steps.specs as job_steps
pub mod Making
pub mod Acting
