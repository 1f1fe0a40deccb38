pub mod Mirror
pub mod Promise
