pub mod Adding
pub mod Allowing
pub mod Multiples
pub mod PastCount
