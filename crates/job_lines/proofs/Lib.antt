mod Trimming
mod Digits
mod Pieces
