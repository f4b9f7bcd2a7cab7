pub mod Wrapping
pub mod Samples
pub mod Singles
pub mod Contents
pub mod Unlimited
pub mod Bracketed
pub mod Operands
