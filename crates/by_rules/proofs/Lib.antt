mod Calendar
mod Comparing
mod Numbers
mod Tokens
pub mod Complete
pub mod Sound
pub mod Refusing
mod Shifts
pub mod Reader
mod TokenLaws
mod OnePlace
