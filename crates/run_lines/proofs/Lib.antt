pub mod Appending
mod Lines
