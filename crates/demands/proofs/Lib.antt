pub mod Columns
pub mod DemandsMet
pub mod ListerMet
pub mod StockMet
pub mod Unique
pub mod UniqueInC
pub mod Table
