pub mod Laws
pub mod Turns
pub mod Outputs
pub mod History
