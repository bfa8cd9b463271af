pub mod Ends
pub mod Runs
