pub mod Structs
pub mod Laws
