pub mod Putting
pub mod Decimals
pub mod Spread
pub mod Piecewise
pub mod KeyText
pub mod Trailing
pub mod Bytes
