pub mod Judging
pub mod Taking
pub mod Verdicts
pub mod Runs
pub mod Windows
pub mod Characters
