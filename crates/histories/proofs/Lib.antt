pub mod AsRun
pub mod Holding
pub mod Steps
pub mod Balance
pub mod Alike
pub mod Meaning
pub mod Accepted
