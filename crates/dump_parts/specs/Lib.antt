pub use Rattle.dump_read.specs as dump_read
pub mod Taken
pub mod Reading
pub mod Laws
