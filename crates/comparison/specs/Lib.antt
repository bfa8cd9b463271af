pub mod Agree
pub mod Counts
pub mod Words
pub mod Cases
