pub mod Safety
pub mod Lawful
