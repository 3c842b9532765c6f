pub mod Lines
pub mod Machines
