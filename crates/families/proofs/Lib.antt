pub mod AsPrinted
pub mod Digits
pub mod Rising
pub mod Complete
pub mod Measured
pub mod Published
pub mod Meeting
