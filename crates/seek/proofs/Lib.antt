pub mod Callers
pub mod Changing
