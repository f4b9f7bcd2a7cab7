pub mod FirstWord
pub mod AnyOperands
pub mod Agreeing
pub mod Standing
pub mod Saying
pub mod Samples
pub mod Completing
pub mod Following
pub mod GoingOn
pub mod Commands
pub mod Making
mod Taking
