mod Volume
mod Journal
mod Sliding
mod Slide
mod Fill
