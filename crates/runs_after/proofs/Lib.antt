mod Starts
mod Adding
mod Moving
