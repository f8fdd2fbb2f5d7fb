pub mod Parsing
pub mod Fielding
pub mod Forms
pub mod Saturating
pub mod Alike
pub mod Cutting
pub mod Playing
