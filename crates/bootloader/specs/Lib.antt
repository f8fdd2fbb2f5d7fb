pub mod Calls
pub mod Lookups
