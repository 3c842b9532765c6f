pub mod Told
pub mod Buffers
