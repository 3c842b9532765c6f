pub mod Ordered
pub mod Again
pub mod Demands
pub mod Lister
pub mod Stock
