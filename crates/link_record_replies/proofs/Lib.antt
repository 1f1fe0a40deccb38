pub mod Done
pub mod Onward
pub mod Never
pub mod Sight
