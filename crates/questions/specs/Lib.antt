pub mod Names
pub mod Named
pub mod Answers
pub mod Memory
pub mod Texts
