pub mod Kept
pub mod Decided
pub mod Back
