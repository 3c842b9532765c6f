pub mod Puts
pub mod Sizes
pub mod Ratios
pub mod Listing
pub mod Replies
