pub mod Singles
pub mod Hosts
