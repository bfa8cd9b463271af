pub mod Outlined
pub mod Searched
