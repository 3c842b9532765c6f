pub mod Loading
pub mod Chunks
pub mod Passing
pub mod Groups
pub mod Gathering
pub mod Bytes
pub mod Callers
pub mod Fronts
