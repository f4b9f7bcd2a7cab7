pub mod Characters
pub mod LabelText
mod PutSerial
pub mod OneLabel
