pub mod Taken
pub mod Kept
pub mod Long
pub mod Runs
pub mod Turns
