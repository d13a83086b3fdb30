pub mod Found
pub mod Joined
pub mod Leading
pub mod Along
pub mod Exits
pub mod Seen
