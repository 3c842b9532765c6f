pub mod Bytes
pub mod EarlierKeys
pub mod KeyOrder
pub mod Replies
pub mod Told
