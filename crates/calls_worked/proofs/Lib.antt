pub mod Worked
pub mod Computed
pub mod Folded
pub mod Listed
pub mod Cased
