mod Lasts
mod Chained
