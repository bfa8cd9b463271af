pub mod Texts
pub mod Equal
pub mod Names
pub mod Counts
pub mod Reports
pub mod Lines
