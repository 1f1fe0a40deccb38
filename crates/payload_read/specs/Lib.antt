pub mod Inner
pub mod Stops
pub mod Outcomes
