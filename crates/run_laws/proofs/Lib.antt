mod Whole
mod Words
mod Made
