pub mod Decimals
pub mod Piecewise
pub mod Bytes
pub mod KeyText
