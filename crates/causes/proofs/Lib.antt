pub mod Quiet
pub mod Stops
