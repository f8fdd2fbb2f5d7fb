pub mod Asked
pub mod Lookups
pub mod Passed
