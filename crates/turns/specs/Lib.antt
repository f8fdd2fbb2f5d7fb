pub mod Turns
pub mod First
