mod Written
pub mod Admits
