pub mod Sample
pub mod Lists
pub mod Cases
