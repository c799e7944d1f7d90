mod Decoded
mod Same
