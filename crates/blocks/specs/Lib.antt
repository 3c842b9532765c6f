pub mod Blocks
pub mod Bytewise
