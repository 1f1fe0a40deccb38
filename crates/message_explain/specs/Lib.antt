pub mod Explaining
pub mod Truth
pub mod Inner
