pub mod Operand
pub mod AnyOperand
pub mod Laws
pub mod Command
pub mod CommandProgress
pub mod CommandLaws
