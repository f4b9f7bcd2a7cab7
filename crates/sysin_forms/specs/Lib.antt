pub mod Operand
pub mod Form
pub mod Made
