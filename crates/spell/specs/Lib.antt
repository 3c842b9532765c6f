pub mod Lines
pub mod Spelling
pub mod Callers
