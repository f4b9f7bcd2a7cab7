pub mod Words
pub mod Grammar
pub mod Parts
pub mod Laws
