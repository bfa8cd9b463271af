pub mod Circles
pub mod Corners
pub mod Triangles
pub mod Round
pub mod Threecornered
pub mod Means
