pub mod AsPrinted
pub mod Lists
pub mod Euclid
pub mod TwoStates
pub mod Convergents
