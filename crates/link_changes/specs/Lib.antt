pub mod Changes
pub mod Outcome
