pub mod Numbers
pub mod Operators
