pub mod Value
pub mod Page
pub mod Zeros
pub mod Laws
pub mod Coarse
