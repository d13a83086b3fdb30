pub mod Steps
pub mod Runs
pub mod Times
pub mod Cleared
