pub mod Laws
pub mod Bytewise
