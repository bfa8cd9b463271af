pub mod Traced
pub mod Pieces
pub mod Lawful
