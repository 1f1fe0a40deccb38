pub mod Reading
pub mod Passing
