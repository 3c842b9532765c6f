pub mod Lines
pub mod Measures
pub mod Words
pub mod Going
pub mod Beginning
