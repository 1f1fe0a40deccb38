pub mod Walk
pub mod Reasons
pub mod Standing
pub mod Positions
