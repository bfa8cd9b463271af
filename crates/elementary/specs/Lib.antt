pub mod Roots
pub mod Powers
pub mod SixthRoots
pub mod Angles
pub mod Laws
