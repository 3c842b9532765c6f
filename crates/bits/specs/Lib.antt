pub mod Strings
pub mod Binary
pub mod Texts
