pub mod Fractions
pub mod Convergents
pub mod TwoStates
