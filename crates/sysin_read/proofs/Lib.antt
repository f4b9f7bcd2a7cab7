mod Samples
pub mod Around
pub mod Opening
pub mod Words
pub mod Blocks
pub mod Ending
pub mod Lines
pub mod Moving
mod Taking
mod Going
mod Completing
mod Counting
mod Refusing
mod Finishing
mod Columns
mod Places
pub mod OneText
pub mod OneStep
pub mod OneFault
pub mod OneWhy
pub mod OnePlace
