pub mod Verdict
pub mod LawfulCode
