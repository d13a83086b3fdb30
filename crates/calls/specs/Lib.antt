pub mod Called
pub mod History
pub mod Law
pub mod Played
