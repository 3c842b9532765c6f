pub mod Taking
pub mod Told
pub mod Begun
pub mod Ended
pub mod Characters
pub mod Callers
