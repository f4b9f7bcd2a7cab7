pub mod Bracket
pub mod Content
pub mod Operand
pub mod Laws
