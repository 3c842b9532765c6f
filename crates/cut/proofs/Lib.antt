pub mod Copying
pub mod Ends
pub mod Remaining
pub mod Replies
