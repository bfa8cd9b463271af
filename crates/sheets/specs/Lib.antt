pub mod SheetFaults
pub mod Book
pub mod Tables
pub mod Draws
pub mod Sound
pub mod Runs
pub mod Answers
