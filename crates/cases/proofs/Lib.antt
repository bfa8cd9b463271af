mod Digits
pub mod Numerals
mod Paddings
pub mod Searches
mod Takings
