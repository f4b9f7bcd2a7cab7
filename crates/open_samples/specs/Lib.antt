pub mod Pool
pub mod Slide
pub mod Fill
