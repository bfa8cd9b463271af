pub mod Failures
pub mod Lines
pub mod Readers
