pub mod Numbers
pub mod Mirrors
pub mod Specimens
