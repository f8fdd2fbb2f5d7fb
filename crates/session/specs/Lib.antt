pub mod States
pub mod Calls
