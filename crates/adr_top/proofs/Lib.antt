mod Asked
mod Codes
mod Endings
mod Named
mod Opened
mod Prepared
mod Unmade
