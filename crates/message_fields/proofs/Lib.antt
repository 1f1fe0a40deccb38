pub mod Seeking
pub mod Answers
pub mod Parts
pub mod Within
