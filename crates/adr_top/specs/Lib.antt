pub use Rattle.job_script.specs as job_script
pub mod Asked
pub mod Texts
pub mod Reading
pub mod Ends
pub mod Parts
