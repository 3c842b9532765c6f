pub mod Keys
pub mod Size
pub mod Places
