mod Replaced
mod Rows
mod Tests
mod Reasons
mod FreePlaces
