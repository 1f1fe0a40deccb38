pub mod Histories
pub mod Pair
