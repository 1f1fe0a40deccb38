pub mod Receive
pub mod Inner
pub mod Run
pub mod Ran
