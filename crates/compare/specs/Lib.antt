pub mod Answers
pub mod Bytes
pub mod Earlier
