pub mod Judging
pub mod Reading
pub mod Rising
pub mod Passing
pub mod Callers
