pub mod Meaning
pub mod OneLine
pub mod Refused
pub mod Serves
