pub mod Copies
pub mod Stepping
pub mod Sheets
