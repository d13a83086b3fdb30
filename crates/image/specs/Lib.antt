pub mod Fetch
pub mod Accept
