pub mod SlotsPut
pub mod PointerPut
pub mod Reading
pub mod Makes
mod FourMade
