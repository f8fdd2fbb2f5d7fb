pub mod Hosting
pub mod Statuses
pub mod Requests
pub mod Refusing
pub mod Readings
pub mod Begun
pub mod Stages
