mod Splits
mod ExtentsOnce
mod OneSlide
mod OneList
