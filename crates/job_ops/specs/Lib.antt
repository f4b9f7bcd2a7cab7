pub use Rattle.dump_sets.specs.job_turns as job_turns
pub use Rattle.dump_sets.specs.job_turns.job_steps.unit_session as unit_session
pub mod Reasons
pub mod Task
pub mod Sets
pub mod Listing
pub mod Release
pub mod Consolidate
pub mod Copy
pub mod Meaning
pub mod Ends
pub mod Asked
pub mod Reshaping
pub mod Transfers
pub mod Copying
