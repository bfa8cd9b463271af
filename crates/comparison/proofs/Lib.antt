mod Takings
mod Pairs
mod Countings
