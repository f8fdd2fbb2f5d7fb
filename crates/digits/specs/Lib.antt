pub mod Rows
pub mod Refusals
pub mod Sums
pub mod Elements
pub mod Tapes
pub mod Ring
