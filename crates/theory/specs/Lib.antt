pub mod Lawful
pub mod Runs
