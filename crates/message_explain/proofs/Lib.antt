pub mod Leaves
pub mod Stopping
pub mod Headers
pub mod Answered
pub mod Truth
pub mod Only
pub mod Before
