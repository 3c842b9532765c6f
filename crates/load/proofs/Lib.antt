pub mod Passing
pub mod Bytes
pub mod Groups
pub mod Fronts
