pub mod Roles
pub mod Table
pub mod Message
pub mod Rows
