pub mod Marks
pub mod Measured
pub mod Lawful
