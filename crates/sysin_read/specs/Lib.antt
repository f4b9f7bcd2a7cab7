pub mod Statement
pub mod Rest
pub mod Reading
pub mod Why
pub mod Progress
pub mod Told
pub mod Refusal
pub mod Laws
