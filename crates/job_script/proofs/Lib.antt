mod Fronts
mod Ones
mod Plans
mod Printing
mod Rans
mod Stacks
mod Calls
mod Earlier
