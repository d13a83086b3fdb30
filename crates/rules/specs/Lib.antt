pub mod Resolved
pub mod Translate
pub mod Evaluate
