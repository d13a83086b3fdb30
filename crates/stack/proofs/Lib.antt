pub mod Over
pub mod Alike
pub mod Agree
pub mod Locals
pub mod Steps
pub mod Runs
