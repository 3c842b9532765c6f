pub mod Splitting
pub mod Answering
pub mod Stretches
