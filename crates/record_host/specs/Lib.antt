pub mod Lawful
pub mod Parts
pub mod Checked
pub mod Says
pub mod Means
