mod Printed
mod WholeNumbers
pub mod Writing
