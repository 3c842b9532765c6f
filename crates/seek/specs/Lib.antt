pub mod Seeking
pub mod Finding
pub mod Replies
pub mod Callers
pub mod Answers
