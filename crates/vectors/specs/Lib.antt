pub mod Functions
pub mod Texts
pub mod Answers
pub mod Lists
pub mod Counts
