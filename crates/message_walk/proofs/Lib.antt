pub mod Leaves
pub mod Ends
pub mod Stepping
pub mod Placed
