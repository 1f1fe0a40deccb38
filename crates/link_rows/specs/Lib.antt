pub mod Limits
pub mod Rows
pub mod Replies
pub mod Rules
