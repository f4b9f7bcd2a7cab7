mod SetTracks
mod Places
mod Bounds
