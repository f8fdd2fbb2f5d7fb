pub mod Steps
mod Filling
mod Lining
