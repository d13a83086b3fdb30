pub mod Scopes
pub mod Rules
pub mod Limits
