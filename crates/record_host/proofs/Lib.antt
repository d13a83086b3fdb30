pub mod Lookup
pub mod Portions
pub mod Posting
