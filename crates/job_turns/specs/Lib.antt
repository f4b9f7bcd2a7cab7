pub use Rattle.job_acts.specs as job_acts
pub use Rattle.job_acts.specs.job_steps as job_steps
pub use Rattle.job_copies.specs as job_copies
pub mod Setting
pub mod Refusal
pub mod Turns
pub mod Ends
pub mod Stating
