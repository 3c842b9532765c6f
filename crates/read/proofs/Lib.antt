pub mod Next
pub mod Range
pub mod Steps
pub mod Replies
