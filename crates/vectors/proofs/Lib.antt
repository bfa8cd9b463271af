mod Splits
mod Arrows
mod Readings
