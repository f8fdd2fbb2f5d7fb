pub mod Workings
pub mod Layout
pub mod Works
pub mod Keys
