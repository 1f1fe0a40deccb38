pub mod Exactly
pub mod Found
pub mod Examples
