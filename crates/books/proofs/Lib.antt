pub mod Finding
pub mod Pairing
pub mod Products
pub mod Room
pub mod Sections
