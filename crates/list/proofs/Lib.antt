pub mod Puts
pub mod Leaves
pub mod Replies
pub mod Lines
pub mod Going
