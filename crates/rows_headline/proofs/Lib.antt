mod Forms
mod Looking
mod Settling
mod Stopping
