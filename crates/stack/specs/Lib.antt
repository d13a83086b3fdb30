pub mod Stack
pub mod Law
