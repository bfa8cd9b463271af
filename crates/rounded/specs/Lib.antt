pub mod Radii
pub mod Roundings
pub mod Shrunk
pub mod Outlines
pub mod Corners
pub mod Halves
pub mod Nearest
pub mod Outlined
