mod Placed
mod Jumps
mod Translated
