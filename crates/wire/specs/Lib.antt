pub mod Numbers
pub mod Replies
pub mod Layout
pub mod Values
pub mod Decoding
pub mod Reading
pub mod Contents
