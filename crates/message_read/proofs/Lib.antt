pub mod Opening
pub mod Exact
pub mod Payload
pub mod Passing
pub mod Order
