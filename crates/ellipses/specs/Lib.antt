pub mod Ellipses
pub mod Lengths
pub mod Ovals
pub mod Oval
