pub mod Numbers
pub mod Bytes
pub mod Answers
pub mod Reading
