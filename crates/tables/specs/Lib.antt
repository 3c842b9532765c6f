pub mod Rows
pub mod Layouts
pub mod Sound
pub mod Stocks
pub mod Moves
pub mod Changes
pub mod Order
