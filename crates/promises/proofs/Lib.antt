pub mod Fitting
pub mod Kept
