pub mod Example
pub mod Exact
