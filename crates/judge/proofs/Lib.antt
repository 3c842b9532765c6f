pub mod Passing
pub mod Rising
