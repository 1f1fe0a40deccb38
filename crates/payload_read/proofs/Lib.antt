pub mod Passing
pub mod Versions
pub mod Outcomes
pub mod Along
pub mod Walk
