pub mod Lent
pub mod Rounds
pub mod Lookups
