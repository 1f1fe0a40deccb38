pub mod Chain
pub mod Names
pub mod Rows
pub mod Versions
