pub mod Script
pub mod Play
pub mod Inner
