pub mod Refusals
pub mod Signs
pub mod Onward
