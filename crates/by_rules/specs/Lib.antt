pub mod Day
pub mod Criterion
pub mod Token
pub mod Words
pub mod Grammar
pub mod Refusal
pub mod Reading
pub mod Laws
