mod NumberLists
pub mod Drawings
pub mod Pages
