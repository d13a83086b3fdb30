pub mod Entered
pub mod Progress
pub mod Restored
pub mod Turns
pub mod Whole
pub mod Verdicts
