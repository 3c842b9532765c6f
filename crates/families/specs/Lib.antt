pub mod Families
pub mod Words
