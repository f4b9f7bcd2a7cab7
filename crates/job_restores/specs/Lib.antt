pub use Rattle.dump_parts.specs as dump_parts
pub use Rattle.job_turns.specs as job_turns
pub mod Case
pub mod Reasons
pub mod Places
pub mod Loaded
